-- `good_shape`: by the section of its extents, their signs and their product.
use borrow.Author.Rules.{rules}
use Rattle.shapes.proofs.Judging.{good_laws}
use Rattle.shapes.proofs.extents.good_shape.Goals as goal

pub returns-then-not-all_natural : goal.returns-then-not-all_natural
returns-then-not-all_natural c = search (rules, good_laws)

pub returns-else-not-all_natural : goal.returns-else-not-all_natural
returns-else-not-all_natural c = search (rules, good_laws)

pub returns-in-None : goal.returns-in-None
returns-in-None c = search (rules, good_laws)
