-- `broadcast_to_rank`: the call with mode 0.
use lib.ListN.{length}
use mir.Syntax.{w32}
use mir.ValLaws.{to_z-of_z}
use Rattle.rules.proofs.StretchedModes.{default_rank}
use Rattle.stretch_calls.proofs.broadcast_to_rank.Goals as goal

pub returns : goal.returns
returns c = let a = c.args in
    rw (to_z-of_z w32 a.rank c.ranges.rank, default_rank a.«record».now (length a.res.now) (length a.work.now) a.rank) at c.broadcast_to_rank_with_mode.ensures
