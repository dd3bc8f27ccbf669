-- `moved`: the places before this one have been moved.
use Prim.Native.Nat.{◌-◌}
use Rattle.lists.proofs.Beginning.{MovedTo}
use Rattle.lists.proofs.walking.moved.Given as goal

abbrev pub invariant-loop-i : goal.invariant-loop-i
invariant-loop-i l = MovedTo l.by l.places.count l.places.at l.s l.i l.moved

abbrev pub decreases-loop-i : goal.decreases-loop-i
decreases-loop-i l = l.places.count - l.i
