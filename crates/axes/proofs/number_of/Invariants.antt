-- `number_of`: two components at once, and of others the first k at each turn.
use Prim.Native.Nat.{◌-◌}
use Rattle.axes.proofs.Numbering.{Numbered}
use Rattle.axes.proofs.number_of.Given as goal

abbrev pub invariant-loop-k : goal.invariant-loop-k
invariant-loop-k l = Numbered l.a l.at l.w l.k l.number l.s l.t

abbrev pub decreases-loop-k : goal.decreases-loop-k
decreases-loop-k l = l.w - l.k
