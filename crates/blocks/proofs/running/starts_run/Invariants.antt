-- `starts_run`: the blocks before this one start on the line.
use Prim.Native.Nat.{◌-◌}
use Rattle.blocks.proofs.Runs.{RunTo}
use Rattle.blocks.proofs.running.starts_run.Given as goal

abbrev pub invariant-loop-i : goal.invariant-loop-i
invariant-loop-i l = RunTo l.line l.rank l.records.count l.records.at l.starts l.s l.i l.run

abbrev pub decreases-loop-i : goal.decreases-loop-i
decreases-loop-i l = l.records.count - l.i
