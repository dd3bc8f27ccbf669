-- `starts_on`: the numbers before this one are those of the line.
use Prim.Native.Nat.{◌-◌}
use Rattle.blocks.proofs.Runs.{OnTo}
use Rattle.blocks.proofs.running.starts_on.Given as goal

abbrev pub invariant-loop-axis : goal.invariant-loop-axis
invariant-loop-axis l = OnTo l.line l.run l.rank l.start l.axis

abbrev pub decreases-loop-axis : goal.decreases-loop-axis
decreases-loop-axis l = l.rank - l.axis
