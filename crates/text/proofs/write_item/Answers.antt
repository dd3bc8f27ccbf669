-- `write_item`: by whether it is the first.
use borrow.Author.Rules.{rules}
use Rattle.text.proofs.Items.{laws}
use Rattle.text.proofs.write_item.Goals as goal

pub returns-then-i-eq0 : goal.returns-then-i-eq0
returns-then-i-eq0 c = search (rules, laws)

pub returns : goal.returns
returns c = search (rules, laws)
