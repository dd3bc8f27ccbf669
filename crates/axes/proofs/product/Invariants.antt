-- `product`: at each turn the product is that of the first k extents.
use Prim.Native.Nat.{◌-◌}
use Rattle.tables.specs.Rows.{row_at}
use Rattle.axes.proofs.Products.{Multiplied}
use Rattle.axes.proofs.product.Given as goal

abbrev pub invariant-loop-k : goal.invariant-loop-k
invariant-loop-k l = Multiplied l.rank l.k l.product (row_at l.at l.rank l.s)

abbrev pub decreases-loop-k : goal.decreases-loop-k
decreases-loop-k l = l.rank - l.k
