-- `list_rows`: at each turn the first i rows, each with every index in it, are in the table.
use Rattle.lowering.proofs.AllTails.{AllTails}
use Rattle.lowering.proofs.list_rows.Given as goal

abbrev pub invariant-loop-i : goal.invariant-loop-i
invariant-loop-i l = AllTails l.from l.read l.extents l.w l.rank l.to l.width l.count l.size l.i l.initial.s l.s
