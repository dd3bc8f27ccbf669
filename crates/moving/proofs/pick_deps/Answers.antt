-- `pick_deps`: the states are picked, and then the inputs.
use native.Mathlib.Omega.{arith}
use Rattle.moving.proofs.Deps.{ask_states, ask_inputs, deps_picked}
use Rattle.moving.proofs.pick_deps.Goals as goal

pub pick_sorted-requires : goal.pick_sorted-requires
pick_sorted-requires c = ask_states c.requires.sound_record c.requires.w_bound.0 c.requires.w_bound.1

pub pick_sorted-requires-2 : goal.pick_sorted-requires-2
pick_sorted-requires-2 c = ask_inputs c.requires.sound_record c.requires.w_bound.0 (omega (arith, c.requires.w_bound.1, c.pick_sorted.ensures.only.size))

pub returns : goal.returns
returns c = deps_picked c.requires.sound_record c.requires.w_bound.0 c.requires.w_bound.1 _ c.pick_sorted.ensures c.pick_sorted-2.ensures
