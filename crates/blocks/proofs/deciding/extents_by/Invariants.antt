-- `extents_by`: the extents before this one are there.
use Prim.Native.Nat.{◌-◌}
use Rattle.blocks.proofs.Shapes.{ExtentsTo}
use Rattle.blocks.proofs.deciding.extents_by.Given as goal

abbrev pub invariant-loop-axis : goal.invariant-loop-axis
invariant-loop-axis l = ExtentsTo l.way l.rank l.records.count l.records.at l.starts l.s l.axis l.extents

abbrev pub decreases-loop-axis : goal.decreases-loop-axis
decreases-loop-axis l = l.rank - l.axis
