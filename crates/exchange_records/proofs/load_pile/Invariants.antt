-- `load_pile`: each turn is one record and its slot.
use Rattle.exchange_records.proofs.Loading.{Loading}
use Rattle.exchange_records.proofs.load_pile.Given as goal

abbrev pub invariant-loop-i : goal.invariant-loop-i
invariant-loop-i l = Loading l.n l.list l.i l.at l.pile
