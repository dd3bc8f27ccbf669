-- `extent_by`: by the way.
use borrow.Author.Rules.{rules}
use Rattle.blocks.proofs.Shapes.{extent_laws}
use Rattle.blocks.proofs.deciding.extent_by.Goals as goal

pub returns-then-axis-eq0 : goal.returns-then-axis-eq0
returns-then-axis-eq0 c = search (rules, extent_laws)

pub returns-else-axis-eq0 : goal.returns-else-axis-eq0
returns-else-axis-eq0 c = search (rules, extent_laws)

pub returns-in-Diagonal : goal.returns-in-Diagonal
returns-in-Diagonal c = search (rules, extent_laws)

pub returns-in-Rows : goal.returns-in-Rows
returns-in-Rows c = search (rules, extent_laws)
