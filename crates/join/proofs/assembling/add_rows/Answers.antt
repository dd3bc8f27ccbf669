-- `add_rows`: the head, the rows, and whether they number the product.
use Rattle.join.proofs.Ways.{rows_turn, rows_stay}
use Rattle.join.proofs.assembling.add_rows.Goals as goal

pub returns-then-get-product : goal.returns-then-get-product
returns-then-get-product c = rows_turn c.args.extents c.requires c.write_frame.ensures c.merge_blocks.ensures c.if-not-merge_blocks.false c.get.ensures.0 c.product.ensures c.if-get-product.true c.turn_dense.ensures

pub returns-else-get-product : goal.returns-else-get-product
returns-else-get-product c = rows_stay c.args.extents c.requires c.write_frame.ensures c.merge_blocks.ensures c.if-not-merge_blocks.false c.get.ensures.0 c.product.ensures c.if-get-product.false
