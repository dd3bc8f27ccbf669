-- `put_alone`: at each turn the entry and what it yields on the first axes are in the table.
use Rattle.stretch.proofs.Yields.{Yielding}
use Rattle.stretch.proofs.deps.put_alone.Given as goal

abbrev pub invariant-loop-axis : goal.invariant-loop-axis
invariant-loop-axis l = Yielding l.entry l.old l.from l.at l.rank l.shape l.to l.axis l.initial.part l.part
