-- `over_shape`: by the number at the front.
use Rattle.shapes.proofs.extents.over_shape.Goals as goal

pub returns : goal.returns
returns c = rw c.natural_at.ensures.0
