-- `extent`: the number behind those of the axes before.
use borrow.Author.Rules.{rules}
use Rattle.shapes.proofs.Judging.{extent_laws}
use Rattle.shapes.proofs.extents.extent.Goals as goal

pub returns-then-axis-rank : goal.returns-then-axis-rank
returns-then-axis-rank c = search (rules, extent_laws)
