-- `last_agree`: the axes before this one do not differ.
use Prim.Native.Nat.{◌-◌}
use Rattle.lists.specs.Records.{layouts_at}
use Rattle.blocks.proofs.Ways.{AxesTo, last_test}
use Rattle.blocks.proofs.deciding.last_agree.Given as goal

abbrev pub invariant-loop-axis : goal.invariant-loop-axis
invariant-loop-axis l = AxesTo (last_test (layouts_at l.records.count l.records.at l.s)) l.kept l.rank l.axis

abbrev pub decreases-loop-axis : goal.decreases-loop-axis
decreases-loop-axis l = l.rank - l.axis
