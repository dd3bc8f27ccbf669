-- `turn`: at each turn the components from k on were the last ones, and are 0.
use Rattle.stretch.proofs.Turning.{turn_start, ask_component, ask_extent, sum_small, turn_grown, turn_rolled}
use native.Mathlib.Omega.{arith}
use Rattle.stretch.proofs.every.turn.Goals as goal

pub loop-k-init : goal.loop-k-init
loop-k-init c = turn_start c.requires

pub low-number-requires : goal.low-number-requires
low-number-requires c = let told = ask_component c.loop-k.invariant c.loop-k-test.true in record { at_in_bounds = told.0; at_bound = told.1 }

pub overflow_add-number : goal.overflow_add-number
overflow_add-number c = omega (arith, c.low-number.ensures, (ask_component c.loop-k.invariant c.loop-k-test.true).1)

pub low-requires : goal.low-requires
low-requires c = let told = ask_extent c.loop-k.invariant c.loop-k-test.true in record { at_in_bounds = told.0; at_bound = told.1 }

pub store-requires : goal.store-requires
store-requires c = ((ask_component c.loop-k.invariant c.loop-k-test.true).0, sum_small c.loop-k.invariant c.loop-k-test.true c.low-number.ensures c.low.ensures)

pub returns-then-number-low : goal.returns-then-number-low
returns-then-number-low c = turn_grown c.loop-k.invariant c.loop-k-test.true c.low-number.ensures c.low.ensures c.if-number-low.true c.store.ensures

pub loop-k-preserved : goal.loop-k-preserved
loop-k-preserved c = turn_rolled c.loop-k.invariant c.loop-k-test.true c.low-number.ensures c.low.ensures c.if-number-low.false c.store-in-loop-k.ensures
