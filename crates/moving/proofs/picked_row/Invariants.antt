-- `picked_row`: at each turn the first k numbers are picked, and the others missing.
use Rattle.moving.proofs.Picking.{Picking}
use Rattle.tables.specs.Rows.{row_at}
use Rattle.moving.proofs.picked_row.Given as goal

abbrev pub invariant-loop-k : goal.invariant-loop-k
invariant-loop-k l = Picking l.missing l.places l.w (row_at l.at l.width l.s) l.k l.row
