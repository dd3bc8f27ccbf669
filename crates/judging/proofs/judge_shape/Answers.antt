-- `judge_shape`: each test decides where those before it do not hold.
use borrow.Author.Rules.{rules}
use Rattle.judging.proofs.Shapes.{ways}
use Rattle.judging.proofs.judge_shape.Goals as goal

pub returns-then-over_shape : goal.returns-then-over_shape
returns-then-over_shape c = search (rules, ways)

pub returns-then-room-lt-PART : goal.returns-then-room-lt-PART
returns-then-room-lt-PART c = search (rules, ways)

pub returns-then-not-good_shape : goal.returns-then-not-good_shape
returns-then-not-good_shape c = search (rules, ways)

pub returns : goal.returns
returns c = search (rules, ways)
