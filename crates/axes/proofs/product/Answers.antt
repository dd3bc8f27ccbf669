-- `product`: at each turn the product is that of the first k extents.
use borrow.Author.Rules.{rules}
use Rattle.axes.proofs.Products.{products}
use Rattle.axes.proofs.product.Goals as goal

pub loop-k-init : goal.loop-k-init
loop-k-init c = search (rules, products)

pub overflow_mul-product : goal.overflow_mul-product
overflow_mul-product c = search (rules, products)

pub loop-k-preserved : goal.loop-k-preserved
loop-k-preserved c = search (rules, products)

pub returns : goal.returns
returns c = search (rules, products)
