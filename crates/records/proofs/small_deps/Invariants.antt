-- `small_deps`: at each turn the components of the first i dependencies are small.
use Prim.Native.Nat.{◌-◌, ◌+◌}
use Rattle.tables.specs.Rows.{rows_at}
use Rattle.records.specs.Judging.{small_dep}
use Rattle.tables.proofs.Passing.{Passed}
use Rattle.records.proofs.small_deps.Given as goal

abbrev pub invariant-loop-i : goal.invariant-loop-i
invariant-loop-i l = Passed (small_dep l.rank) l.n l.i (rows_at l.a (l.rank + 1) l.n l.s)

abbrev pub decreases-loop-i : goal.decreases-loop-i
decreases-loop-i l = l.n - l.i
