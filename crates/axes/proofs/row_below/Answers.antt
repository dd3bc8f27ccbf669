-- `row_below`: two components one after the other, and of others the first k at each turn.
use borrow.Author.Rules.{rules}
use Rattle.axes.proofs.Below.{pairs, laws}
use Rattle.axes.proofs.row_below.Goals as goal

pub below-requires : goal.below-requires
below-requires c = search (rules, pairs)

pub below-requires-then-below : goal.below-requires-then-below
below-requires-then-below c = search (rules, pairs)

pub returns-then-below : goal.returns-then-below
returns-then-below c = search (rules, pairs)

pub returns-then-w-eq2 : goal.returns-then-w-eq2
returns-then-w-eq2 c = search (rules, pairs)

pub below-requires-in-loop-k : goal.below-requires-in-loop-k
below-requires-in-loop-k c = search (rules, laws)

pub returns-then-not-below : goal.returns-then-not-below
returns-then-not-below c = search (rules, laws)

pub loop-k-preserved : goal.loop-k-preserved
loop-k-preserved c = search (rules, laws)

pub returns : goal.returns
returns c = search (rules, laws)
