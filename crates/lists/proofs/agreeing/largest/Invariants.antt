-- `largest`: the most so far, or one of those that are left.
use Prim.Native.Nat.{◌-◌}
use Rattle.lists.specs.Places.{standing}
use Rattle.lists.specs.Asked.{measure}
use Rattle.lists.proofs.Common.{MostTo}
use Rattle.lists.proofs.agreeing.largest.Given as goal

abbrev pub invariant-loop-i : goal.invariant-loop-i
invariant-loop-i l = MostTo (measure l.what) l.places.count l.i (standing l.places.count l.places.at l.s) l.most

abbrev pub decreases-loop-i : goal.decreases-loop-i
decreases-loop-i l = l.places.count - l.i
