-- `any_zero`: none of the extents before the axis is zero.
use Rattle.rules.specs.Record.{shape_in}
use Rattle.shapes.proofs.Passing.{NoZero}
use Rattle.shapes.proofs.extents.any_zero.Given as goal

abbrev pub invariant-loop-axis : goal.invariant-loop-axis
invariant-loop-axis l = NoZero l.axes l.axis (shape_in l.s)
