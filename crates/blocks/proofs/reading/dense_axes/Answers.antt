-- `dense_axes`: the second number.
use borrow.Author.Rules.{rules}
use Rattle.blocks.proofs.Told.{reading_laws}
use Rattle.blocks.proofs.reading.dense_axes.Goals as goal

pub returns : goal.returns
returns c = search (rules, reading_laws)
