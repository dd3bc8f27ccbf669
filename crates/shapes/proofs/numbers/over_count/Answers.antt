-- `over_count`: by the sign of the count.
use borrow.Author.Rules.{rules}
use Rattle.shapes.proofs.Reading.{reading}
use Rattle.shapes.proofs.numbers.over_count.Goals as goal

pub returns-in-Some : goal.returns-in-Some
returns-in-Some c = search (rules, reading)

pub returns-in-None : goal.returns-in-None
returns-in-None c = search (rules, reading)
