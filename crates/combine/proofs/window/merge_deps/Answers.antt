-- `merge_deps`: the states, and then the inputs.
use mathlib.Core.Path.{ap}
use Prim.Native.Nat.{ℕ, ◌+◌}
use Rattle.combine.proofs.Merged.{ask_states, ask_then, states_stop, deps_made}
use Rattle.combine.proofs.window.merge_deps.Goals as goal

pub merge_into-requires : goal.merge_into-requires
merge_into-requires c = ask_states c.requires (ap (λ (n : ℕ). n + 1) c.get-w.ensures.0)

pub merge_into-requires-then-merge_into : goal.merge_into-requires-then-merge_into
merge_into-requires-then-merge_into c = ask_then c.requires (ap (λ (n : ℕ). n + 1) c.get-w.ensures.0) c.merge_into.ensures

pub returns-then-merge_into : goal.returns-then-merge_into
returns-then-merge_into c = deps_made c.requires (ap (λ (n : ℕ). n + 1) c.get-w.ensures.0) c.merge_into.ensures c.if-merge_into.true c.merge_into-then-merge_into.ensures

pub returns : goal.returns
returns c = states_stop c.requires (ap (λ (n : ℕ). n + 1) c.get-w.ensures.0) c.merge_into.ensures c.if-merge_into.false
