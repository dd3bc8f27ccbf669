-- `rows_alike`: all before this row have equal components.
use Rattle.rules.specs.Layout.{alike}
use Rattle.tables.specs.Rows.{rows_at}
use Rattle.tables.proofs.Passing.{Passed}
use Rattle.fold.proofs.ending.rows_alike.Given as goal

abbrev pub invariant-loop-i : goal.invariant-loop-i
invariant-loop-i l = Passed alike l.n l.i (rows_at 8 l.w l.n l.part)
