-- `rank`: the number at the front.
use borrow.Author.Rules.{rules}
use Rattle.shapes.proofs.Judging.{extent_laws}
use Rattle.shapes.proofs.extents.rank.Goals as goal

pub returns : goal.returns
returns c = search (rules, extent_laws)
