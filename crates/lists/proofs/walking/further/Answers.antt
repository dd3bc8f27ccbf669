-- `further`: by how many numbers there are.
use borrow.Author.Rules.{rules}
use Rattle.lists.proofs.Ending.{further_laws}
use Rattle.lists.proofs.walking.further.Goals as goal

pub returns-then-s-at : goal.returns-then-s-at
returns-then-s-at c = search (rules, further_laws)

pub returns : goal.returns
returns c = search (rules, further_laws)
