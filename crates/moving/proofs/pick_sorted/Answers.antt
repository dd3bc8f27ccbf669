-- `pick_sorted`: at each turn the first i rows, picked, are in the table, in order and once each.
use borrow.Author.Rules.{rules}
use Rattle.rules.proofs.Sorting.{sorted_length}
use Rattle.moving.proofs.Picking.{picked_low}
use Rattle.moving.proofs.Filling.{start_filling, row_made, can_take, turn_sorted, filled, sorted_none}
use Rattle.moving.proofs.pick_sorted.Goals as goal

pub loop-i-init : goal.loop-i-init
loop-i-init c = start_filling c.requires c.store.ensures (picked_low _) sorted_none

pub put_row-requires : goal.put_row-requires
put_row-requires c = let g = c.loop-i.invariant in record {
  ready = can_take g;
  has_row = row_made g c.loop-i-test.true _ c.picked_row-row.ensures (search rules);
}

pub loop-i-preserved : goal.loop-i-preserved
loop-i-preserved c = turn_sorted c.loop-i.invariant c.loop-i-test.true c.picked_row-row.ensures c.put_row.ensures

pub returns : goal.returns
returns c = filled c.requires c.store.ensures sorted_length c.loop-i.invariant c.loop-i-test.false
