-- `list_row`: at each turn the row with the first indices in it is in the table.
use borrow.Author.Tests.{not-true, not-false}
use borrow.Author.Rules.{rules}
use Rattle.lowering.proofs.RowTails.{laws, ask_tail, can_take, full_row, turn, stop}
use Rattle.lowering.proofs.list_row.Goals as goal

pub loop-number-init : goal.loop-number-init
loop-number-init c = search (rules, laws)

pub unravel_into-requires : goal.unravel_into-requires
unravel_into-requires c = ask_tail c.loop-number.invariant c.loop-number-test.true

pub put_row-requires : goal.put_row-requires
put_row-requires c = let g = c.loop-number.invariant in record {
  ready = can_take g;
  has_row = full_row g c.loop-number-test.true c.unravel_into.ensures;
}

pub returns-then-not-put_row : goal.returns-then-not-put_row
returns-then-not-put_row c = stop c.loop-number.invariant c.loop-number-test.true c.unravel_into.ensures c.put_row.ensures (not-true c.put_row.result c.if-not-put_row.true-raw)

pub loop-number-preserved : goal.loop-number-preserved
loop-number-preserved c = turn c.loop-number.invariant c.loop-number-test.true c.unravel_into.ensures c.put_row.ensures (not-false c.put_row.result c.if-not-put_row.false-raw)

pub returns : goal.returns
returns c = search (rules, laws)
