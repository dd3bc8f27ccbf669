-- `within_product`: at each turn the product is that of the first k extents but the zeros.
use Prim.Native.Nat.{◌-◌}
use Rattle.tables.specs.Rows.{row_at}
use Rattle.axes.proofs.Products.{Limited}
use Rattle.axes.proofs.within_product.Given as goal

abbrev pub invariant-loop-k : goal.invariant-loop-k
invariant-loop-k l = Limited l.rank l.k l.product (row_at l.at l.rank l.s)

abbrev pub decreases-loop-k : goal.decreases-loop-k
decreases-loop-k l = l.rank - l.k
