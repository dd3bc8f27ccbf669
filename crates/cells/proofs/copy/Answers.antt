-- `copy`: the part that was lent came back as src.
use Rattle.rules.specs.Buffers.{over}
use Rattle.cells.proofs.copy.Goals as goal

pub returns : goal.returns
unfolding over
returns c = rw c.copy_from_slice.ensures.after
