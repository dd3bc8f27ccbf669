-- `sum_rows`: the shortened rows are the table, or fill the shorter shape.
use native.Mathlib.Omega.{arith}
use Rattle.moving.proofs.Deps.{ask_rows}
use Rattle.reshape.proofs.Contracting.{axes_few, ask_product, ask_full, ask_sparse_lem, rows_fill, rows_stay}
use Rattle.reshape.proofs.contract.sum_rows.Goals as goal

pub cut_sorted-requires : goal.cut_sorted-requires
cut_sorted-requires c = let few = axes_few c.requires.sum_asked in record {
  pick_asked = ask_rows c.requires.sum_asked.sound (omega arith) (omega (arith, c.requires.sum_asked.room));
  w_le_width = omega (arith, c.requires.no_dense_axis.all_rows);
}

pub product-requires : goal.product-requires
product-requires c = ask_product c.requires.sum_asked c.requires.no_dense_axis

pub write_head-requires : goal.write_head-requires
write_head-requires c = ask_full c.requires.sum_asked c.requires.no_dense_axis c.cut_sorted.ensures c.get.ensures.0 c.product.ensures c.store.ensures

pub write_head-requires-else-get-product : goal.write_head-requires-else-get-product
write_head-requires-else-get-product c = ask_sparse_lem c.requires.sum_asked c.requires.no_dense_axis c.cut_sorted.ensures c.get.ensures.0 c.product.ensures

pub returns-then-get-product : goal.returns-then-get-product
returns-then-get-product c = rows_fill c.requires.sum_asked c.requires.no_dense_axis c.cut_sorted.ensures c.get.ensures.0 c.product.ensures
    c.if-get-product.true c.store.ensures c.write_head.ensures

pub returns-else-get-product : goal.returns-else-get-product
returns-else-get-product c = rows_stay c.requires.sum_asked c.requires.no_dense_axis c.cut_sorted.ensures c.get.ensures.0 c.product.ensures
    c.if-get-product.false c.write_head-else-get-product.ensures
