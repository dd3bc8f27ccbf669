-- `number_on`: by the line.
use borrow.Author.Rules.{rules}
use Rattle.blocks.proofs.Runs.{number_laws}
use Rattle.blocks.proofs.running.number_on.Goals as goal

pub returns-then-axis-eq0 : goal.returns-then-axis-eq0
returns-then-axis-eq0 c = search (rules, number_laws)

pub returns-else-axis-eq0 : goal.returns-else-axis-eq0
returns-else-axis-eq0 c = search (rules, number_laws)
