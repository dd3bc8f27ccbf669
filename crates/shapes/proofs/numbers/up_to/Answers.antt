-- `up_to`: by the sign of the number, if one stands there.
use borrow.Author.Rules.{rules}
use Rattle.shapes.proofs.Reading.{reading}
use Rattle.shapes.proofs.numbers.up_to.Goals as goal

pub returns-then-s-at : goal.returns-then-s-at
returns-then-s-at c = search (rules, reading)

pub returns-in-Some : goal.returns-in-Some
returns-in-Some c = search (rules, reading)

pub returns-in-None : goal.returns-in-None
returns-in-None c = search (rules, reading)
