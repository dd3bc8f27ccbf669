-- `rank`: the third number.
use borrow.Author.Rules.{rules}
use Rattle.blocks.proofs.Told.{reading_laws}
use Rattle.blocks.proofs.reading.rank.Goals as goal

pub returns : goal.returns
returns c = search (rules, reading_laws)
