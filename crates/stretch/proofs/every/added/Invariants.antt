-- `added`: at each turn the first k numbers are sums.
use Rattle.stretch.proofs.Plus.{Adding}
use Rattle.stretch.proofs.every.added.Given as goal

abbrev pub invariant-loop-k : goal.invariant-loop-k
invariant-loop-k l = Adding l.at l.w l.from l.initial.row l.k l.row
