-- `join_rows`: the product, the rows, and the dependencies.
use Rattle.join.proofs.Ways.{product_over, rows_many, ask_whole, rows_said}
use Rattle.join.proofs.assembling.join_rows.Goals as goal

pub returns-then-not-within_product : goal.returns-then-not-within_product
returns-then-not-within_product c = product_over c.args.extents c.requires c.within_product.ensures c.if-not-within_product.true _

pub returns-then-not-add_rows : goal.returns-then-not-add_rows
returns-then-not-add_rows c = rows_many c.args.extents c.requires c.within_product.ensures c.if-not-within_product.false c.add_rows.ensures c.if-not-add_rows.true

pub complete-requires : goal.complete-requires
complete-requires c = ask_whole c.args.extents c.requires c.within_product.ensures c.if-not-within_product.false c.add_rows.ensures c.if-not-add_rows.false

pub returns : goal.returns
returns c = rows_said c.args.extents c.requires c.within_product.ensures c.if-not-within_product.false c.add_rows.ensures c.if-not-add_rows.false c.complete.ensures
