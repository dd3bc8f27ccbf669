-- `move_entry`: at each turn the first k of n numbers are sums, and small.
use native.Mathlib.Omega.{arith}
use borrow.Author.Rules.{rules}
use Rattle.entries.proofs.Placing.{place_start, since_copied, number_inside, number_low, place_sum, place_stop, place_turn, place_done}
use Rattle.entries.proofs.standing.move_entry.Goals as goal

pub loop-k-init : goal.loop-k-init
loop-k-init c = place_start c.requires c.copy_row.ensures (search rules)

pub low-requires : goal.low-requires
low-requires c = let g = c.loop-k.invariant in record {
  at_in_bounds = number_inside g c.loop-k-test.true;
  at_bound = number_low g c.loop-k-test.true;
}

pub overflow_add-number : goal.overflow_add-number
overflow_add-number c = omega (arith, place_sum c.loop-k.invariant c.loop-k-test.true c.low.ensures)

pub returns-then-number-gt-COMPONENT_LIMIT : goal.returns-then-number-gt-COMPONENT_LIMIT
returns-then-number-gt-COMPONENT_LIMIT c = since_copied c.requires c.copy_row.ensures (place_stop c.loop-k.invariant c.loop-k-test.true c.low.ensures c.if-number-gt-COMPONENT_LIMIT.true)

pub loop-k-preserved : goal.loop-k-preserved
loop-k-preserved c = place_turn c.loop-k.invariant c.loop-k-test.true c.low.ensures c.if-number-gt-COMPONENT_LIMIT.false c.store.ensures

pub returns : goal.returns
returns c = since_copied c.requires c.copy_row.ensures (place_done c.loop-k.invariant c.loop-k-test.false)
