-- `list_diagonal`: at each turn the rows of the numbers below i are in the table.
use borrow.Author.Rules.{rules}
use Rattle.lowering.proofs.Diagonals.{laws}
use Rattle.lowering.proofs.list_diagonal.Goals as goal

pub loop-i-init : goal.loop-i-init
loop-i-init c = search (rules, laws)

pub returns : goal.returns
returns c = search (rules, laws)
