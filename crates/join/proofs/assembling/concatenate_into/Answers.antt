-- `concatenate_into`: the scalar, or the blocks joined.
use Rattle.join.proofs.Joins.{none_said, some_said}
use Rattle.join.proofs.assembling.concatenate_into.Goals as goal

pub returns-then-places-eq0 : goal.returns-then-places-eq0
returns-then-places-eq0 c = none_said c.requires.join_asked c.if-places-eq0.true c.write_scalar.ensures

pub returns : goal.returns
returns c = some_said c.requires.join_asked c.if-places-eq0.false c.join_blocks.ensures
