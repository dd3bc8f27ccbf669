-- `copy_row`: at each turn the first i numbers of the part are written.
use Rattle.cells.proofs.Written.{Bringing}
use Rattle.cells.proofs.copy_row.Given as goal

abbrev pub invariant-loop-i : goal.invariant-loop-i
invariant-loop-i l = Bringing l.from l.to l.n l.src l.initial.dst l.i l.dst
