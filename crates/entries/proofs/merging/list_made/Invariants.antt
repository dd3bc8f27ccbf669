-- `list_made`: at each turn the first i entries are small, and in the table.
use Rattle.entries.proofs.Putting.{Tabling}
use Rattle.entries.proofs.merging.list_made.Given as goal

abbrev pub invariant-loop-i : goal.invariant-loop-i
invariant-loop-i l = Tabling l.list l.head l.from l.start l.rank l.w l.to l.count l.n l.i l.initial.window l.window
