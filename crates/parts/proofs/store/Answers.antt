-- `store`: the head and the three tables, one behind the other, are the record.
use Prim.Native.Nat.{◌≤◌}
use native.Mathlib.Omega.{arith}
use lib.ListN.{length-take}
use Rattle.parts.proofs.Encoding.{rank_few, dense_within, rows_there_lem, states_there, inputs_there, layout_stored}
use Rattle.parts.proofs.store.Goals as goal

pub slice_bounds-copy-end : goal.slice_bounds-copy-end
slice_bounds-copy-end c =
    let few : c.get-rank.result ≤ 4 = rank_few c.requires.holds c.get-rank.ensures.0 c.get-dense.ensures.0 in
    simp length-take (omega (arith, few, c.requires.holds.inside))

pub copy-requires : goal.copy-requires
copy-requires c =
    let few : c.get-rank.result ≤ 4 = rank_few c.requires.holds c.get-rank.ensures.0 c.get-dense.ensures.0 in
    simp length-take (omega (arith, few))

pub overflow_sub-rank : goal.overflow_sub-rank
overflow_sub-rank c = dense_within c.requires.holds c.get-rank.ensures.0 c.get-dense.ensures.0

pub store_table-states-requires : goal.store_table-states-requires
store_table-states-requires c =
    let few : c.get-rank.result ≤ 4 = rank_few c.requires.holds c.get-rank.ensures.0 c.get-dense.ensures.0 in record {
      fits = rows_there_lem c.requires.holds c.get-rank.ensures.0 c.get-dense.ensures.0;
      w_in_bounds = omega (arith, few);
    }

pub store_table-inputs-requires : goal.store_table-inputs-requires
store_table-inputs-requires c =
    let few : c.get-rank.result ≤ 4 = rank_few c.requires.holds c.get-rank.ensures.0 c.get-dense.ensures.0 in record {
      fits = states_there c.requires.holds c.get-rank.ensures.0 c.get-dense.ensures.0;
      w_in_bounds = omega (arith, few);
    }

pub store_table-requires : goal.store_table-requires
store_table-requires c =
    let few : c.get-rank.result ≤ 4 = rank_few c.requires.holds c.get-rank.ensures.0 c.get-dense.ensures.0 in record {
      fits = inputs_there c.requires.holds c.get-rank.ensures.0 c.get-dense.ensures.0;
      w_in_bounds = omega (arith, few);
    }

pub returns : goal.returns
returns c = layout_stored c.requires.holds c.get-rank.ensures.0 c.get-dense.ensures.0
    c.copy.ensures c.store_table-states.ensures c.store_table-inputs.ensures c.store_table.ensures
