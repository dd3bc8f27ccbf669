-- `cut_fit`: at each turn the axes from the rank up to k have extent 1.
use Rattle.stretch.proofs.StretchedAxes.{cutting, cut_stop}
use borrow.Author.Rules.{rules}
use Rattle.stretch.proofs.spread.cut_fit.Goals as goal

pub returns-then-get-ne1 : goal.returns-then-get-ne1
returns-then-get-ne1 c = cut_stop c.loop-k.invariant c.loop-k-test.true c.get.ensures.0 c.if-get-ne1.true

pub loop-k-preserved : goal.loop-k-preserved
loop-k-preserved c = search (rules, cutting)

pub returns : goal.returns
returns c = search (rules, cutting)
