-- `store_slot`: the slot came back with the record at its front.
use mathlib.Core.Path.{refl}
use Rattle.pile.proofs.Storing.{slot_stored}
use Rattle.pile.proofs.store_slot.Goals as goal

pub returns : goal.returns
returns c = slot_stored _ _ _ c.requires.holds refl c.requires.result_size_in_bounds c.store.ensures
