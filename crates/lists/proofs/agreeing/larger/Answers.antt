-- `larger`: by the order of the two.
use borrow.Author.Rules.{rules}
use Rattle.rules.proofs.Largest.{larger_laws}
use Rattle.lists.proofs.agreeing.larger.Goals as goal

pub returns-then-x-y : goal.returns-then-x-y
returns-then-x-y c = search (rules, larger_laws)

pub returns : goal.returns
returns c = search (rules, larger_laws)
