-- `pick_as_they_come`: at each turn the first i rows, picked, are the table.
use lib.ListN.{take}
use Rattle.moving.specs.Picking.{picked}
use Rattle.moving.proofs.Filling.{Filling, as_they_come}
use Rattle.moving.proofs.pick_as_they_come.Given as goal

abbrev pub invariant-loop-i : goal.invariant-loop-i
invariant-loop-i l = Filling as_they_come (picked 0 (take l.w l.places)) l.rows l.width l.w l.s l.at l.i l.initial.part l.part
