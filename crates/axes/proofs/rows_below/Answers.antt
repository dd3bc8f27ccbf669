-- `rows_below`: at each turn the components of the first i rows are below the extents.
use borrow.Author.Rules.{rules}
use Rattle.tables.proofs.Rows.{has_row}
use Rattle.tables.proofs.Passing.{rows_passing}
use Rattle.axes.proofs.rows_below.Goals as goal

pub loop-i-init : goal.loop-i-init
loop-i-init c = search (rules, rows_passing)

pub row_below-requires : goal.row_below-requires
row_below-requires c = search (rules, has_row)

pub returns-then-not-row_below : goal.returns-then-not-row_below
returns-then-not-row_below c = search (rules, rows_passing)

pub loop-i-preserved : goal.loop-i-preserved
loop-i-preserved c = search (rules, rows_passing)

pub returns : goal.returns
returns c = search (rules, rows_passing)
