-- `put_values`: at each turn the entry with the first values on the axis is in the table.
use Rattle.stretch.proofs.Values.{laws, can_take, next_row, turn, stop}
use borrow.Author.Rules.{rules}
use Rattle.stretch.proofs.deps.put_values.Goals as goal

pub loop-value-init : goal.loop-value-init
loop-value-init c = search (rules, laws)

pub put_row-requires : goal.put_row-requires
put_row-requires c = let g = c.loop-value.invariant in record {
  ready = can_take g;
  has_row = next_row g c.loop-value-test.true c.store.ensures;
}

pub returns-then-not-put_row : goal.returns-then-not-put_row
returns-then-not-put_row c = stop c.loop-value.invariant c.loop-value-test.true c.store.ensures c.put_row.ensures c.if-not-put_row.true

pub loop-value-preserved : goal.loop-value-preserved
loop-value-preserved c = turn c.loop-value.invariant c.loop-value-test.true c.store.ensures c.put_row.ensures c.if-not-put_row.false
