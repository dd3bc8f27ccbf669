-- `pick_as_they_come`: at each turn the first i rows, picked, are the table.
use mathlib.Core.Path.{refl}
use borrow.Author.Rules.{rules}
use Rattle.moving.proofs.Picking.{picked_low}
use Rattle.moving.proofs.Filling.{start_filling, row_made, can_add, turn_added, filled, same_many}
use Rattle.moving.proofs.pick_as_they_come.Goals as goal

pub loop-i-init : goal.loop-i-init
loop-i-init c = start_filling c.requires c.store.ensures (picked_low _) refl

pub insert_at-requires : goal.insert_at-requires
insert_at-requires c = let g = c.loop-i.invariant in record {
  can_insert = can_add g c.loop-i-test.true;
  w_in_bounds = (row_made g c.loop-i-test.true _ c.picked_row-row.ensures (search rules)).room;
}

pub loop-i-preserved : goal.loop-i-preserved
loop-i-preserved c = turn_added c.loop-i.invariant c.loop-i-test.true c.picked_row-row.ensures c.insert_at.ensures

pub returns : goal.returns
returns c = filled c.requires c.store.ensures same_many c.loop-i.invariant c.loop-i-test.false
