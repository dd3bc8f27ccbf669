-- `behind_shape`: by the section of the extents.
use borrow.Author.Rules.{rules}
use Rattle.lists.proofs.Ending.{shape_laws}
use Rattle.lists.proofs.walking.behind_shape.Goals as goal

pub overflow_add-result : goal.overflow_add-result
overflow_add-result c = search (rules, shape_laws)

pub returns-in-Some : goal.returns-in-Some
returns-in-Some c = search (rules, shape_laws)

pub returns-in-None : goal.returns-in-None
returns-in-None c = search (rules, shape_laws)
