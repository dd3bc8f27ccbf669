-- `shared_fit`: at each turn the first k shared axes fit.
use Rattle.stretch.proofs.StretchedAxes.{Sharing}
use Rattle.stretch.proofs.spread.shared_fit.Given as goal

abbrev pub invariant-loop-k : goal.invariant-loop-k
invariant-loop-k l = Sharing l.old l.from l.at l.rank l.shape l.both l.k
