-- `merge_list`: what is held of each, and then both merged.
use mathlib.Core.Path.{ap}
use Prim.Native.Nat.{ℕ, ◌+◌}
use native.Mathlib.Omega.{arith}
use Rattle.intersecting.proofs.MergedLists.{list_ends, ask_left, left_stop, ask_right, right_stop, ask_merge, list_merged}
use Rattle.intersecting.proofs.filter.merge_list.Goals as goal

pub take_held-requires : goal.take_held-requires
take_held-requires c = ask_left c.args.d c.requires

pub returns-then-not-take_held : goal.returns-then-not-take_held
returns-then-not-take_held c = left_stop c.args.d c.requires c.take_held.ensures c.if-not-take_held.true

pub take_held-requires-2 : goal.take_held-requires-2
take_held-requires-2 c = ask_right c.args.d c.requires c.take_held.ensures

pub returns-then-not-take_held-2 : goal.returns-then-not-take_held-2
returns-then-not-take_held-2 c = right_stop c.args.d c.requires c.take_held.ensures c.if-not-take_held.false c.take_held-2.ensures c.if-not-take_held-2.true

pub overflow_add-list : goal.overflow_add-list
overflow_add-list c = omega (arith, list_ends c.requires.place)

pub overflow_add-list-2 : goal.overflow_add-list-2
overflow_add-list-2 c = omega (arith, list_ends c.requires.place)

pub overflow_add-list-3 : goal.overflow_add-list-3
overflow_add-list-3 c = omega (arith, list_ends c.requires.place)

pub merge_into-requires : goal.merge_into-requires
merge_into-requires c = ask_merge c.args.d c.requires c.take_held.ensures c.if-not-take_held.false c.take_held-2.ensures c.if-not-take_held-2.false (ap (λ (k : ℕ). k + 1) c.get-w.ensures.0)

pub returns : goal.returns
returns c = list_merged c.args.d c.requires c.take_held.ensures c.if-not-take_held.false c.take_held-2.ensures c.if-not-take_held-2.false (ap (λ (k : ℕ). k + 1) c.get-w.ensures.0) c.merge_into.ensures
