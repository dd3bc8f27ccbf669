-- `min_rank`: the last axis whose extent is not 1 decides.
use Rattle.lookups.proofs.Trailing.{min_stop}
use Rattle.lookups.proofs.counts.min_rank.Goals as goal

pub returns-then-extent-ne1 : goal.returns-then-extent-ne1
returns-then-extent-ne1 c = min_stop c.loop-axis.invariant c.loop-axis-test.true c.extent.ensures.0 c.if-extent-ne1.true
