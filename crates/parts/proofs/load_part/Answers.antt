-- `load_part`: the numbers that were copied are a part of the slice.
use Rattle.rules.specs.Buffers.{part}
use Rattle.parts.proofs.load_part.Goals as goal

pub returns : goal.returns
unfolding part
returns c = c.copy_into.ensures
