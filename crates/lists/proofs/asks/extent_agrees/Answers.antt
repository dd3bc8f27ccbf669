-- `extent_agrees`: both tests.
use borrow.Author.Rules.{rules}
use Rattle.lists.proofs.Asking.{agree_laws}
use Rattle.lists.proofs.asks.extent_agrees.Goals as goal

pub returns-then-e-eq1 : goal.returns-then-e-eq1
returns-then-e-eq1 c = search (rules, agree_laws)

pub returns : goal.returns
returns c = search (rules, agree_laws)
