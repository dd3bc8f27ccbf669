-- `exchange_pairs`: each turn is one pair and its line.
use Prim.Native.Nat.{◌*◌}
use Rattle.exchange_records.proofs.Turning.{Turning}
use Rattle.exchange_records.proofs.exchange_pairs.Given as goal

abbrev pub invariant-loop-k : goal.invariant-loop-k
invariant-loop-k l = Turning l.initial.pile l.pairs l.initial.out (2 * l.k) l.at l.pile l.work l.out
