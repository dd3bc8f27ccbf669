-- `keep_each`: at each turn those of the first i entries that are held are in the table.
use Rattle.filtering.proofs.Keeping.{Walk}
use Rattle.filtering.proofs.keep_each.Given as goal

abbrev pub invariant-loop-i : goal.invariant-loop-i
invariant-loop-i l = Walk l.at l.from l.to l.w l.n l.i l.initial.s l.s
