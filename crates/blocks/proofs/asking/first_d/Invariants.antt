-- `first_d`: the layouts before this one are dense.
use Prim.Native.Nat.{◌-◌}
use Rattle.lists.specs.Records.{layouts_at}
use Rattle.blocks.proofs.Asks.{DenseTo}
use Rattle.blocks.proofs.asking.first_d.Given as goal

abbrev pub invariant-loop-i : goal.invariant-loop-i
invariant-loop-i l = DenseTo l.records.count l.i (layouts_at l.records.count l.records.at l.s)

abbrev pub decreases-loop-i : goal.decreases-loop-i
decreases-loop-i l = l.records.count - l.i
