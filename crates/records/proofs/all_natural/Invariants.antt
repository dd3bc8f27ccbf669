-- `all_natural`: at each turn the least of the first k numbers and 0 is known.
use Rattle.records.proofs.Numbers.{LeastOf}
use Rattle.records.proofs.all_natural.Given as goal

abbrev pub invariant-loop-k : goal.invariant-loop-k
invariant-loop-k l = LeastOf l.n l.k l.s l.least
