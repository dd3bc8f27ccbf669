-- `measured`: by what is measured.
use borrow.Author.Rules.{rules}
use Rattle.lists.proofs.Common.{measured_laws}
use Rattle.lists.proofs.agreeing.measured.Goals as goal

pub returns-in-Rank : goal.returns-in-Rank
returns-in-Rank c = search (rules, measured_laws)

pub returns-in-Extent : goal.returns-in-Extent
returns-in-Extent c = search (rules, measured_laws)
