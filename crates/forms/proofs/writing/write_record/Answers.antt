-- `write_record`: piece behind piece.
use Rattle.forms.proofs.Pieces.{pieces_written}
use Rattle.forms.proofs.writing.write_record.Goals as goal

pub returns : goal.returns
returns c = pieces_written c.requires c.whole.ensures c.whole-2.ensures c.whole-3.ensures c.copy.ensures
    c.copy_into.ensures c.store.ensures c.copy_into-2.ensures c.copy_into-3.ensures
