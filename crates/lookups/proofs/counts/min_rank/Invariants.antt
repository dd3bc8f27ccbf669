-- `min_rank`: the extents from `axis` on are all 1.
use Rattle.lookups.proofs.Trailing.{Trailing}
use Rattle.lookups.proofs.counts.min_rank.Given as goal

abbrev pub invariant-loop-axis : goal.invariant-loop-axis
invariant-loop-axis l = Trailing l.shape l.axis
