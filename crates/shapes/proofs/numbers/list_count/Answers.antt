-- `list_count`: by the sign of the count.
use borrow.Author.Rules.{rules}
use Rattle.shapes.proofs.Reading.{reading}
use Rattle.shapes.proofs.numbers.list_count.Goals as goal

pub returns-then-n-le16 : goal.returns-then-n-le16
returns-then-n-le16 c = search (rules, reading)

pub returns-else-n-le16 : goal.returns-else-n-le16
returns-else-n-le16 c = search (rules, reading)

pub returns-in-None : goal.returns-in-None
returns-in-None c = search (rules, reading)
