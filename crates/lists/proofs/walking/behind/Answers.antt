-- `behind`: by what the thing is.
use borrow.Author.Rules.{rules}
use Rattle.lists.proofs.Ending.{thing_laws}
use Rattle.lists.proofs.walking.behind.Goals as goal

pub returns-in-Shape : goal.returns-in-Shape
returns-in-Shape c = search (rules, thing_laws)

pub returns-in-Record : goal.returns-in-Record
returns-in-Record c = search (rules, thing_laws)

pub returns-in-Block : goal.returns-in-Block
returns-in-Block c = search (rules, thing_laws)
