-- `dense_by`: by the way.
use borrow.Author.Rules.{rules}
use Rattle.blocks.proofs.Ways.{axes_laws}
use Rattle.blocks.proofs.deciding.dense_by.Goals as goal

pub returns-in-Diagonal : goal.returns-in-Diagonal
returns-in-Diagonal c = search (rules, axes_laws)

pub returns-in-Rows : goal.returns-in-Rows
returns-in-Rows c = search (rules, axes_laws)
