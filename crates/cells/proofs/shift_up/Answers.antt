-- `shift_up`: at each turn the numbers from k up to e are written.
use borrow.Author.Rules.{rules}
use Rattle.cells.proofs.Written.{laws}
use Rattle.cells.proofs.shift_up.Goals as goal

pub loop-k-init : goal.loop-k-init
loop-k-init c = search (rules, laws)

pub loop-k-preserved : goal.loop-k-preserved
loop-k-preserved c = search (rules, laws)
