-- `load_slot`: what there is room for, and zeros behind it.
use Rattle.exchange_records.proofs.Loading.{slot_loaded}
use Rattle.exchange_records.proofs.load_slot.Goals as goal

pub returns : goal.returns
returns c = slot_loaded _ _ _ c.requires c.min-n.ensures c.clear.ensures c.copy.ensures
