-- `cut_sorted`: at each turn the first i rows, cut, are in the table, in order and once each.
use Rattle.rules.proofs.Sorting.{sorted_length}
use Rattle.rules.proofs.Changed.{take_low}
use Rattle.tables.proofs.Rows.{front_row}
use Rattle.records.proofs.Naturals.{has_front}
use Rattle.moving.proofs.Filling.{start_filling, row_there, can_take, turn_sorted, filled, sorted_none}
use Rattle.moving.proofs.cut_sorted.Goals as goal

pub loop-i-init : goal.loop-i-init
loop-i-init c = start_filling c.requires.pick_asked c.store.ensures (take_low c.args.w) sorted_none

pub put_row-requires : goal.put_row-requires
put_row-requires c = record {
  ready = can_take c.loop-i.invariant;
  has_row = has_front (row_there c.loop-i.invariant c.loop-i-test.true) c.requires.w_le_width;
}

pub loop-i-preserved : goal.loop-i-preserved
loop-i-preserved c = turn_sorted c.loop-i.invariant c.loop-i-test.true (front_row _ _ _ _ c.requires.w_le_width) c.put_row.ensures

pub returns : goal.returns
returns c = filled c.requires.pick_asked c.store.ensures sorted_length c.loop-i.invariant c.loop-i-test.false
