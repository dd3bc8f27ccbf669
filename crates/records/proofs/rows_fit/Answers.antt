-- `rows_fit`: each test decides where those before it hold.
use borrow.Author.Rules.{rules}
use Rattle.records.proofs.RowTests.{fits}
use Rattle.records.proofs.rows_fit.Goals as goal

pub returns-then-not-rows_below : goal.returns-then-not-rows_below
returns-then-not-rows_below c = search (rules, fits)

pub returns-then-is_increasing : goal.returns-then-is_increasing
returns-then-is_increasing c = search (rules, fits)

pub returns-then-differ : goal.returns-then-differ
returns-then-differ c = search (rules, fits)

pub returns : goal.returns
returns c = search (rules, fits)
