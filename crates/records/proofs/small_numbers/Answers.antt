-- `small_numbers`: two numbers one after the other, and of others the first k at each turn.
use borrow.Author.Rules.{rules}
use Rattle.records.proofs.Numbers.{two_small, smalls}
use Rattle.records.proofs.small_numbers.Goals as goal

pub low-requires : goal.low-requires
low-requires c = search (rules, two_small)

pub returns-then-low-gt-COMPONENT_LIMIT : goal.returns-then-low-gt-COMPONENT_LIMIT
returns-then-low-gt-COMPONENT_LIMIT c = search (rules, two_small)

pub low-requires-then-n-eq2 : goal.low-requires-then-n-eq2
low-requires-then-n-eq2 c = search (rules, two_small)

pub returns-then-n-eq2 : goal.returns-then-n-eq2
returns-then-n-eq2 c = search (rules, two_small)

pub loop-k-init : goal.loop-k-init
loop-k-init c = search (rules, smalls)

pub low-requires-in-loop-k : goal.low-requires-in-loop-k
low-requires-in-loop-k c = search (rules, smalls)

pub returns-then-low-gt-COMPONENT_LIMIT-2 : goal.returns-then-low-gt-COMPONENT_LIMIT-2
returns-then-low-gt-COMPONENT_LIMIT-2 c = search (rules, smalls)

pub loop-k-preserved : goal.loop-k-preserved
loop-k-preserved c = search (rules, smalls)

pub returns : goal.returns
returns c = search (rules, smalls)
