-- `alike`: at each turn the first k numbers are the first one.
use borrow.Author.Rules.{rules}
use Rattle.records.proofs.Numbers.{alikes, alike_fails}
use Rattle.records.proofs.alike.Goals as goal

pub loop-k-init : goal.loop-k-init
loop-k-init c = search (rules, alikes)

pub returns-then-not-same : goal.returns-then-not-same
returns-then-not-same c = alike_fails _ _ _ c.loop-k.invariant c.loop-k-test.true c.same.ensures c.if-not-same.true-raw

pub loop-k-preserved : goal.loop-k-preserved
loop-k-preserved c = search (rules, alikes)

pub returns : goal.returns
returns c = search (rules, alikes)
