-- `spread_extents`: at each turn the first k axes have their count of values.
use Rattle.stretch.proofs.StretchedAxes.{Spreading}
use Rattle.stretch.proofs.spread.spread_extents.Given as goal

abbrev pub invariant-loop-k : goal.invariant-loop-k
invariant-loop-k l = Spreading l.old l.from l.at l.rank l.shape l.w l.k l.extents
