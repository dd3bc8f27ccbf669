-- `put_moved`: at each turn the row plus the first indices is in the table, and the next index stands ready.
use Rattle.stretch.proofs.Moves.{Moving}
use Rattle.stretch.proofs.every.put_moved.Given as goal

abbrev pub invariant-loop-number : goal.invariant-loop-number
invariant-loop-number l = Moving l.at l.w l.from l.extents l.size l.to l._number l.index l.initial.part l.part
