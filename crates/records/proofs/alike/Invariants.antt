-- `alike`: at each turn the first k numbers are the first one.
use Prim.Native.Nat.{◌-◌}
use lib.Dec.{eqb}
use lib.ListN.{get_or}
use Rattle.rules.specs.Buffers.{part}
use Rattle.cells.specs.View.{view}
use Rattle.tables.proofs.Passing.{Passed}
use Rattle.records.proofs.alike.Given as goal

abbrev pub invariant-loop-k : goal.invariant-loop-k
invariant-loop-k l = Passed (eqb (get_or (view l.s) l.a 0)) l.n l.k (part l.a l.n (view l.s))

abbrev pub decreases-loop-k : goal.decreases-loop-k
decreases-loop-k l = l.n - l.k
