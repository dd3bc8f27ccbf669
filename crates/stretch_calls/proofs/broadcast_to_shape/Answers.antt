-- `broadcast_to_shape`: the call with mode 0.
use lib.ListN.{length}
use Rattle.rules.proofs.StretchedModes.{default_shape}
use Rattle.stretch_calls.proofs.broadcast_to_shape.Goals as goal

pub returns : goal.returns
returns c = let a = c.args in
    rw (default_shape a.«record».now (length a.res.now) (length a.work.now) a.shape.now) at c.broadcast_to_shape_with_mode.ensures
