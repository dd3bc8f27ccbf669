-- `added`: at each turn the first k numbers are sums.
use Rattle.stretch.proofs.Plus.{adding, sum_small}
use native.Mathlib.Omega.{arith}
use borrow.Author.Rules.{rules}
use Rattle.stretch.proofs.every.added.Goals as goal

pub store-requires : goal.store-requires
store-requires c = let g = c.loop-k.invariant in
    (omega (arith, g.long, g.asked.narrow), sum_small g c.loop-k-test.true c.get.ensures.0 c.get-in-loop-k.ensures.0)

pub loop-k-preserved : goal.loop-k-preserved
loop-k-preserved c = search (rules, adding)

pub returns : goal.returns
returns c = search (rules, adding)
