-- `row_below`: two components one after the other, and of others the first k at each turn.
use Prim.Native.Nat.{◌-◌}
use Rattle.axes.proofs.Below.{Under}
use Rattle.axes.proofs.row_below.Given as goal

abbrev pub invariant-loop-k : goal.invariant-loop-k
invariant-loop-k l = Under l.a l.at l.w l.k l.s l.t

abbrev pub decreases-loop-k : goal.decreases-loop-k
decreases-loop-k l = l.w - l.k
