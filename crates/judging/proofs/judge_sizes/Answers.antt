-- `judge_sizes`: each test decides where those before it do not hold.
use borrow.Author.Rules.{rules}
use Rattle.judging.proofs.LentSizes.{ways}
use Rattle.judging.proofs.judge_sizes.Goals as goal

pub returns-then-over : goal.returns-then-over
returns-then-over c = search (rules, ways)

pub returns-then-res-lt-PART : goal.returns-then-res-lt-PART
returns-then-res-lt-PART c = search (rules, ways)

pub returns-then-work-lt-WORK : goal.returns-then-work-lt-WORK
returns-then-work-lt-WORK c = search (rules, ways)
