-- `good_indices`: all tests.
use borrow.Author.Rules.{rules}
use Rattle.shapes.proofs.Reading.{indices}
use Rattle.shapes.proofs.numbers.good_indices.Goals as goal

pub returns-then-n-gt-RESULT_SIZE : goal.returns-then-n-gt-RESULT_SIZE
returns-then-n-gt-RESULT_SIZE c = search (rules, indices)

pub returns-then-s-n : goal.returns-then-s-n
returns-then-s-n c = search (rules, indices)

pub returns : goal.returns
returns c = search (rules, indices)
