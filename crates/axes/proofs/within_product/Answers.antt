-- `within_product`: at each turn the product is that of the first k extents but the zeros.
use borrow.Author.Rules.{rules}
use Rattle.axes.proofs.Products.{limits}
use Rattle.axes.proofs.within_product.Goals as goal

pub loop-k-init : goal.loop-k-init
loop-k-init c = search (rules, limits)

pub loop-k-preserved-then-extent-eq0 : goal.loop-k-preserved-then-extent-eq0
loop-k-preserved-then-extent-eq0 c = search (rules, limits)

pub returns-then-product-gt-PRODUCT_LIMIT : goal.returns-then-product-gt-PRODUCT_LIMIT
returns-then-product-gt-PRODUCT_LIMIT c = search (rules, limits)

pub loop-k-preserved : goal.loop-k-preserved
loop-k-preserved c = search (rules, limits)

pub returns : goal.returns
returns c = search (rules, limits)
