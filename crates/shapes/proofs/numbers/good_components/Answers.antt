-- `good_components`: the numbers before k passed.
use borrow.Author.Rules.{rules}
use Rattle.rules.specs.Arguments.{good_components}
use Rattle.tables.proofs.Passing.{passing}
use Rattle.shapes.proofs.numbers.good_components.Goals as goal

pub returns-then-not-up_to : goal.returns-then-not-up_to
unfolding good_components
returns-then-not-up_to c = search (rules, passing)

pub loop-k-preserved : goal.loop-k-preserved
loop-k-preserved c = search (rules, passing)

pub returns : goal.returns
unfolding good_components
returns c = search (rules, passing)
