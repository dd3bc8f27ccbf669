-- `same_shape`: by the ranks, and then by the extents.
use Rattle.stretch.proofs.Staying.{other_rank}
use Rattle.stretch.proofs.spread.same_shape.Goals as goal

pub returns-else-old-rank : goal.returns-else-old-rank
returns-else-old-rank c = other_rank c.requires c.if-old-rank.false
