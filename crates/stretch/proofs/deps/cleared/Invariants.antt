-- `cleared`: at each turn the row is 0 on the stretched axes below k.
use Rattle.stretch.proofs.Clearing.{Clearing}
use Rattle.stretch.proofs.deps.cleared.Given as goal

abbrev pub invariant-loop-k : goal.invariant-loop-k
invariant-loop-k l = Clearing l.initial.row l.old l.from l.at l.rank l.shape l.k l.row
