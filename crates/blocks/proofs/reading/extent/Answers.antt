-- `extent`: by whether there is such an axis.
use borrow.Author.Rules.{rules}
use Rattle.blocks.proofs.Told.{reading_laws}
use Rattle.blocks.proofs.reading.extent.Goals as goal

pub returns-then-axis-rank : goal.returns-then-axis-rank
returns-then-axis-rank c = search (rules, reading_laws)

pub returns : goal.returns
returns c = search (rules, reading_laws)
