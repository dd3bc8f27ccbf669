-- `axes_fit`: each return says what the kind asks of the axes.
use borrow.Author.Rules.{rules}
use Rattle.records.proofs.KindTests.{axes}
use Rattle.records.proofs.axes_fit.Goals as goal

pub returns-then-kind-eq0 : goal.returns-then-kind-eq0
returns-then-kind-eq0 c = search (rules, axes)

pub returns-then-width-eq0 : goal.returns-then-width-eq0
returns-then-width-eq0 c = search (rules, axes)

pub returns-then-kind-eq1 : goal.returns-then-kind-eq1
returns-then-kind-eq1 c = search (rules, axes)

pub returns : goal.returns
returns c = search (rules, axes)
