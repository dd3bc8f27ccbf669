-- `moved`: at each turn the first k numbers are sums.
use borrow.Author.Rules.{rules}
use Rattle.entries.proofs.Shifting.{moving}
use Rattle.entries.proofs.entries.moved.Goals as goal

pub loop-k-preserved : goal.loop-k-preserved
loop-k-preserved c = search (rules, moving)
