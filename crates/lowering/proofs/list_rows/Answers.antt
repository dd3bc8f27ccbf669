-- `list_rows`: at each turn the first i rows, each with every index in it, are in the table.
use borrow.Author.Rules.{rules}
use borrow.Author.Tests.{not-true, not-false}
use Rattle.lowering.proofs.AllTails.{laws, start, ask_row_lem, turn, stop}
use Rattle.lowering.proofs.list_rows.Goals as goal

pub loop-i-init : goal.loop-i-init
loop-i-init c = start c.requires c.get-count.ensures.0 c.product-size.ensures

pub list_row-requires : goal.list_row-requires
list_row-requires c = ask_row_lem c.loop-i.invariant c.loop-i-test.true

pub returns-then-not-list_row : goal.returns-then-not-list_row
returns-then-not-list_row c = stop c.loop-i.invariant c.loop-i-test.true c.list_row.ensures (not-true c.list_row.result c.if-not-list_row.true-raw)

pub loop-i-preserved : goal.loop-i-preserved
loop-i-preserved c = turn c.loop-i.invariant c.loop-i-test.true c.list_row.ensures (not-false c.list_row.result c.if-not-list_row.false-raw)

pub returns : goal.returns
returns c = search (rules, laws)
