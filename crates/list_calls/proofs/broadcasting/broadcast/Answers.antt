-- `broadcast`: the call with mode 0.
use lib.ListN.{length}
use mir.Syntax.{w32}
use mir.ValLaws.{to_z-of_z}
use Rattle.rules.proofs.StretchedModes.{default_broadcast}
use Rattle.list_calls.proofs.broadcasting.broadcast.Goals as goal

pub returns : goal.returns
returns c = let a = c.args in
    rw (to_z-of_z w32 a.count c.ranges.count, default_broadcast a.layouts.now (length a.res.now) (length a.work.now) a.count a.operator) at c.broadcast_with_mode.ensures
