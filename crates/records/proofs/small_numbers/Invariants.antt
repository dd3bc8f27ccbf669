-- `small_numbers`: two numbers one after the other, and of others the first k at each turn.
use Prim.Native.Nat.{◌-◌}
use Rattle.rules.specs.Buffers.{part}
use Rattle.cells.specs.View.{view}
use Rattle.records.specs.Judging.{small}
use Rattle.tables.proofs.Passing.{Passed}
use Rattle.records.proofs.small_numbers.Given as goal

abbrev pub invariant-loop-k : goal.invariant-loop-k
invariant-loop-k l = Passed small l.n l.k (part l.a l.n (view l.s))

abbrev pub decreases-loop-k : goal.decreases-loop-k
decreases-loop-k l = l.n - l.k
