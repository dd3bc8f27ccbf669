-- `rows_alike`: all before this row have equal components.
use borrow.Author.Rules.{rules}
use Rattle.tables.proofs.Passing.{rows_passing}
use Rattle.fold.proofs.ending.rows_alike.Goals as goal

pub loop-i-init : goal.loop-i-init
loop-i-init c = search (rules, rows_passing)

pub returns-then-not-alike : goal.returns-then-not-alike
returns-then-not-alike c = search (rules, rows_passing)

pub loop-i-preserved : goal.loop-i-preserved
loop-i-preserved c = search (rules, rows_passing)

pub returns : goal.returns
returns c = search (rules, rows_passing)
