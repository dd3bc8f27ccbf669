-- `move_part`: at each turn the first i numbers of the part are written.
use Rattle.cells.proofs.Written.{Moving}
use Rattle.cells.proofs.move_part.Given as goal

abbrev pub invariant-loop-i : goal.invariant-loop-i
invariant-loop-i l = Moving l.from l.to l.n l.initial.s l.i l.s
