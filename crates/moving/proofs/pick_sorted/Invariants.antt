-- `pick_sorted`: at each turn the first i rows, picked, are in the table, in order and once each.
use lib.ListN.{take}
use Rattle.rules.specs.RowsInOrder.{sorted}
use Rattle.moving.specs.Picking.{picked}
use Rattle.moving.proofs.Filling.{Filling}
use Rattle.moving.proofs.pick_sorted.Given as goal

abbrev pub invariant-loop-i : goal.invariant-loop-i
invariant-loop-i l = Filling sorted (picked 0 (take l.w l.places)) l.rows l.width l.w l.s l.at l.i l.initial.part l.part
