-- `put_yield`: each mode by its own function.
use Rattle.stretch.proofs.Together.{yields_alone, yields_together}
use borrow.Author.Rules.{rules}
use Rattle.stretch.proofs.deps.put_yield.Goals as goal

pub returns-in-Alone : goal.returns-in-Alone
returns-in-Alone c = search (rules, yields_alone)

pub returns-in-Together : goal.returns-in-Together
returns-in-Together c = search (rules, yields_together)
