-- `measure_all`: the measures of the blocks before this one are taken together.
use Prim.Native.Nat.{◌-◌}
use Rattle.rules.specs.Limits.{rank_limit}
use Rattle.blocks.specs.Blocks.{blocks_by}
use Rattle.blocks.specs.Measured.{measure}
use Rattle.blocks.proofs.Measures.{FoldTo}
use Rattle.blocks.proofs.measuring.measure_all.Given as goal

abbrev pub invariant-loop-i : goal.invariant-loop-i
invariant-loop-i l = FoldTo l.how (measure l.what) l.records.count l.i (blocks_by rank_limit l.records.count l.records.at l.starts l.s) l.total

abbrev pub decreases-loop-i : goal.decreases-loop-i
decreases-loop-i l = l.records.count - l.i
