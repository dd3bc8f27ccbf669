-- `put_values`: at each turn the entry with the first values on the axis is in the table.
use Rattle.stretch.proofs.Values.{Valuing}
use Rattle.stretch.proofs.deps.put_values.Given as goal

abbrev pub invariant-loop-value : goal.invariant-loop-value
invariant-loop-value l = Valuing l.initial.row l.axis l.extent l.to l.w l.value l.row l.initial.part l.part
