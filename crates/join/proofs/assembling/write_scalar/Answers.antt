-- `write_scalar`: a head with no axes, and three counts of 0.
use Rattle.join.proofs.Joins.{scalar_said}
use Rattle.join.proofs.assembling.write_scalar.Goals as goal

pub returns : goal.returns
returns c = scalar_said c.requires _ c.write_frame.ensures c.store.ensures c.store-2.ensures
