-- `list_row`: at each turn the row with the first indices in it is in the table.
use Rattle.lowering.proofs.RowTails.{RowTails}
use Rattle.lowering.proofs.list_row.Given as goal

abbrev pub invariant-loop-number : goal.invariant-loop-number
invariant-loop-number l = RowTails l.from l.read l.extents l.w l.rank l.size l.to l.width l.number l.row l.initial.s l.s
