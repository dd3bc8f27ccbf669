-- `join_diagonal`: 12, or a layout with no rows.
use Rattle.join.proofs.Ways.{line_none}
use Rattle.join.proofs.assembling.join_diagonal.Goals as goal

pub returns-then-rank-dense : goal.returns-then-rank-dense
returns-then-rank-dense c = line_none c.args.extents c.requires c.if-rank-dense.true _
