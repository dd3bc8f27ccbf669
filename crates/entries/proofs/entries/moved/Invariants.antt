-- `moved`: at each turn the first k numbers are sums.
use Rattle.entries.proofs.Shifting.{Moving}
use Rattle.entries.proofs.entries.moved.Given as goal

abbrev pub invariant-loop-k : goal.invariant-loop-k
invariant-loop-k l = Moving l.initial.sum l.start l.n l.k l.sum
