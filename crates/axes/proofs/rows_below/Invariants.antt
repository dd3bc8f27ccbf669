-- `rows_below`: at each turn the components of the first i rows are below the extents.
use Prim.Native.Nat.{◌-◌}
use Rattle.rules.specs.Lists.{all_below}
use Rattle.tables.specs.Rows.{row_at, rows_at}
use Rattle.tables.proofs.Passing.{Passed}
use Rattle.axes.proofs.rows_below.Given as goal

abbrev pub invariant-loop-i : goal.invariant-loop-i
invariant-loop-i l = Passed (λ row. all_below row (row_at l.at l.w l.t)) l.n l.i (rows_at l.a l.w l.n l.s)

abbrev pub decreases-loop-i : goal.decreases-loop-i
decreases-loop-i l = l.n - l.i
