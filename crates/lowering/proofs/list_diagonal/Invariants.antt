-- `list_diagonal`: at each turn the rows of the numbers below i are in the table.
use Rattle.lowering.proofs.Diagonals.{Diagonal}
use Rattle.lowering.proofs.list_diagonal.Given as goal

abbrev pub invariant-loop-i : goal.invariant-loop-i
invariant-loop-i l = Diagonal l.to l.w l.extent l.i l.initial.s l.s
