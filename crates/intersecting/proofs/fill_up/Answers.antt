-- `fill_up`: as it is, or dense.
use Rattle.intersecting.proofs.CommonRows.{ask_product, not_full, filled}
use Rattle.intersecting.proofs.fill_up.Goals as goal

pub product-requires : goal.product-requires
product-requires c = ask_product c.requires c.get-rank.ensures.0

pub returns-then-get-product : goal.returns-then-get-product
returns-then-get-product c = not_full c.requires c.get-rank.ensures.0 c.get.ensures.0 c.product.ensures c.if-get-product.true

pub returns : goal.returns
returns c = filled c.requires c.get-rank.ensures.0 c.get.ensures.0 c.product.ensures c.if-get-product.false c.store.ensures c.store-2.ensures c.store-3.ensures
