-- `block_starts`: the starts of the blocks before this one are known.
use Prim.Native.Nat.{◌-◌}
use Rattle.lists.proofs.Starts.{StartsTo}
use Rattle.lists.proofs.starting.block_starts.Given as goal

abbrev pub invariant-loop-b : goal.invariant-loop-b
invariant-loop-b l = StartsTo l.rank l.places.count l.places.at l.s l.b l.starts

abbrev pub decreases-loop-b : goal.decreases-loop-b
decreases-loop-b l = l.places.count - l.b
