-- `write_pile`: each turn is one slot.
use Rattle.exchange_records.proofs.Printing.{Printing}
use Rattle.exchange_records.proofs.write_pile.Given as goal

abbrev pub invariant-loop-i : goal.invariant-loop-i
invariant-loop-i l = Printing l.pile l.count l.at l.initial.out l.i l.next l.out
