-- `kind_fits`: each return says what the kind asks of the rows.
use borrow.Author.Rules.{rules}
use Rattle.records.proofs.KindTests.{rows}
use Rattle.records.proofs.kind_fits.Goals as goal

pub returns-then-kind-gt2 : goal.returns-then-kind-gt2
returns-then-kind-gt2 c = search (rules, rows)

pub returns-then-kind-eq2 : goal.returns-then-kind-eq2
returns-then-kind-eq2 c = search (rules, rows)

pub returns : goal.returns
returns c = search (rules, rows)
