-- What the steps require, from what was judged. Assumes nothing.
use mathlib.Core.Path.{◌≡◌, sym, ◌∙◌}
use mathlib.Core.Bool.{Bool, false, not}
use mathlib.Core.List.{List}
use Prim.Native.Nat.{ℕ}
use borrow.Author.Tests.{not-false}
use lib.IntN.{ℤ}
use lib.ListN.{length}
use Rattle.std.specs.declared.cmp.Ordering.{Ordering}
use Rattle.rules.specs.RowsInOrder.{cmp_rows}
use Rattle.rules.specs.Record.{good_shape, naturals}
use Rattle.rules.specs.Arguments.{over_shape, good_index}
use Rattle.tables.specs.Rows.{row_at, HasRow}
use Rattle.shapes.specs.Judged.{Judged, comparable_indices}
use Rattle.shapes.proofs.Reading.{compared_rows, compared_same}

-- a shape that is not refused
pub shape_judged : (s : List ℤ) {o g : Bool} → o ≡ over_shape s → o ≡ false → g ≡ good_shape s → not g ≡ false → Judged s
shape_judged s {g = g} e f h k = record { small = sym e ∙ f; good = sym h ∙ not-false g k }

-- an index of as many components as were counted
pub index_counted : (s : List ℤ) {m n : ℕ} {b : Bool} → m ≡ n → b ≡ good_index s m → b ≡ good_index s n
index_counted s e f = f ∙ rw e

-- indices that can be compared are rows, and compare as such
module _ (a b : List ℤ) {t : Bool} (e : t ≡ comparable_indices a b) (f : not t ≡ false) where
  pub index_rows : HasRow 0 (length a) a × HasRow 0 (length a) b
  index_rows = compared_rows a b (sym e ∙ not-false t f)

  pub index_order : {o : Ordering} → o ≡ cmp_rows (row_at 0 (length a) a) (row_at 0 (length a) b) → o ≡ cmp_rows (naturals a) (naturals b)
  index_order g = g ∙ compared_same a b (sym e ∙ not-false t f)
