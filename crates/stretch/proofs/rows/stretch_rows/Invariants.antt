-- `stretch_rows`: where there is one index the rows stay; else at each turn what the first i rows give is among the rows of the part.
use Rattle.stretch.proofs.Moves.{Listing}
use Rattle.stretch.proofs.rows.stretch_rows.Given as goal

abbrev pub invariant-loop-i : goal.invariant-loop-i
invariant-loop-i l = Listing l.first l.count l.w l.from l.extents l.size l.i l.initial.part l.part
