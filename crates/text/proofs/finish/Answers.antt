-- `finish`: by the kinds of words.
use borrow.Author.Rules.{rules}
use Rattle.text.proofs.Steps.{laws}
use Rattle.text.proofs.finish.Goals as goal

pub returns-in-Nothing : goal.returns-in-Nothing
returns-in-Nothing c = search (rules, laws)

pub returns-in-Natural : goal.returns-in-Natural
returns-in-Natural c = search (rules, laws)

pub returns-in-Negative : goal.returns-in-Negative
returns-in-Negative c = search (rules, laws)

pub returns-in-Minus : goal.returns-in-Minus
returns-in-Minus c = search (rules, laws)
