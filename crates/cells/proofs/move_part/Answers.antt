-- `move_part`: at each turn the first i numbers of the part are written.
use borrow.Author.Rules.{rules}
use Rattle.cells.proofs.Written.{laws}
use Rattle.cells.proofs.move_part.Goals as goal

pub loop-i-init : goal.loop-i-init
loop-i-init c = search (rules, laws)

pub loop-i-preserved : goal.loop-i-preserved
loop-i-preserved c = search (rules, laws)
