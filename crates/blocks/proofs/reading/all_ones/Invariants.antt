-- `all_ones`: the extents before this one are 1.
use Prim.Native.Nat.{◌-◌}
use lib.Dec.{eqb}
use Rattle.rules.specs.Record.{layout_in}
use Rattle.tables.proofs.Passing.{Passed}
use Rattle.blocks.proofs.reading.all_ones.Given as goal

abbrev pub invariant-loop-axis : goal.invariant-loop-axis
invariant-loop-axis l = Passed (eqb 1) l.axes l.axis (layout_in l.s).shape

abbrev pub decreases-loop-axis : goal.decreases-loop-axis
decreases-loop-axis l = l.axes - l.axis
