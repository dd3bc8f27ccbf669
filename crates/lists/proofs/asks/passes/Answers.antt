-- `passes`: by what is asked.
use borrow.Author.Rules.{rules}
use Rattle.lists.proofs.Asking.{asked_laws}
use Rattle.lists.proofs.asks.passes.Goals as goal

pub extent-requires : goal.extent-requires
extent-requires c = search (rules, asked_laws)

pub returns-in-FewAxes : goal.returns-in-FewAxes
returns-in-FewAxes c = search (rules, asked_laws)

pub returns-in-GoodShape : goal.returns-in-GoodShape
returns-in-GoodShape c = search (rules, asked_laws)

pub returns-in-GoodBlock : goal.returns-in-GoodBlock
returns-in-GoodBlock c = search (rules, asked_laws)

pub returns-in-Agrees : goal.returns-in-Agrees
returns-in-Agrees c = search (rules, asked_laws)
