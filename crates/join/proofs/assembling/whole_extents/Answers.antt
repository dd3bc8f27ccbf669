-- `whole_extents`: each extent is small enough for a slice.
use Rattle.cells.proofs.Signed.{held_pos}
use Rattle.join.proofs.Joins.{extents_seen}
use Rattle.join.proofs.assembling.whole_extents.Goals as goal

pub returns : goal.returns
returns c = let e = c.requires in
    extents_seen _ e.1 (held_pos _ (e.0 0) c.whole.ensures) (held_pos _ (e.0 1) c.whole-2.ensures) (held_pos _ (e.0 2) c.whole-3.ensures) (held_pos _ (e.0 3) c.whole-4.ensures)
