-- `other_of`: by the left one.
use Rattle.intersecting.proofs.Others.{other_right, other_left}
use Rattle.intersecting.proofs.other_of.Goals as goal

pub returns-then-is_dense : goal.returns-then-is_dense
returns-then-is_dense c = other_right c.is_dense.ensures c.if-is_dense.true

pub returns-else-is_dense : goal.returns-else-is_dense
returns-else-is_dense c = other_left c.is_dense.ensures c.if-is_dense.false
