-- `stretches`: the axes before this one stretch.
use Rattle.rules.specs.Record.{shape_in}
use Rattle.shapes.proofs.Stretching.{Stretched}
use Rattle.shapes.proofs.extents.stretches.Given as goal

abbrev pub invariant-loop-axis : goal.invariant-loop-axis
invariant-loop-axis l = Stretched (shape_in l.to) (shape_in l.from) l.axis
