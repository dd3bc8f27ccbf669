-- How many rows a layout lists once its dense axes are removed, and where it may not list any. Assumes nothing.
use mathlib.Core.Path.{◌≡◌, refl, sym}
use mathlib.Core.Bool.{Bool, true, false, not, ◌&&◌}
use mathlib.Core.List.{List, [], ◌∷◌}
use Prim.Native.Nat.{ℕ, zero, suc, ◌*◌, ◌≤◌, ◌<◌}
use native.Mathlib.Nat.{zero-mul, mul-zero, mul-pos}
use native.Mathlib.Omega.{arith}
use borrow.Author.Tests.{lt-ltb, le-ltb}
use lib.Dec.{ltb}
use lib.ListN.{length, get_or, drop, length-map}
use Rattle.rules.specs.Lists.{none, product}
use Rattle.rules.specs.Layout.{Layout, width}
use Rattle.rules.specs.Removal.{positions, kept_axes, removed_rows, lists_row, full_rows}
use Rattle.rules.proofs.Ranges.{from_length}
use Rattle.rules.proofs.Indices.{positions_length}
use Rattle.rules.proofs.Holding.{diagonal_rows}
use Rattle.rules.proofs.Once.{crossed_length}

-- ---- how many

-- the rows of a diagonal number its first extent
pub diagonal_length : (l : Layout) → length (diagonal_rows l) ≡ get_or l.shape 0 0
diagonal_length l = rw (length-map, from_length)

-- the rows with every index of the dense axes number the rows times the product of those axes
pub full_length : (l : Layout) → length (full_rows l) ≡ length l.rows * product (drop (width l) l.shape)
full_length l = rw (crossed_length, positions_length)

-- some elements are not none
some_length : {A : Type 0} (t : List A) → not (none t) ≡ ltb 0 (length t)
unfolding none
some_length [] = refl
some_length (x ∷ t) = sym (lt-ltb 0 (suc (length t)) (omega arith))

-- a product is above 0 where both factors are
product_above : (m n : ℕ) → ltb 0 (m * n) ≡ ltb 0 m && ltb 0 n
product_above zero n = rw zero-mul
product_above (suc m) zero = rw (mul-zero, lt-ltb 0 (suc m) (omega arith))
product_above (suc m) (suc n) =
    rw (
      lt-ltb 0 (suc m * suc n) (mul-pos {m = suc m} {n = suc n} (omega arith) (omega arith)),
      lt-ltb 0 (suc m) (omega arith),
      lt-ltb 0 (suc n) (omega arith),
    )

module _ (l : Layout) {d : ℕ} where
  -- with a D between 0 and that of the layout a row is listed if there are rows and the removed axes have indices
  pub lists_between : 0 < d → d < l.dense → lists_row l d ≡ ltb 0 (length l.rows) && ltb 0 (product (drop (kept_axes l d) l.shape))
  unfolding lists_row removed_rows
  lists_between g h =
      rw (lt-ltb 0 d g, lt-ltb d l.dense h, some_length, crossed_length l.rows (positions (drop (kept_axes l d) l.shape)), positions_length)
      (product_above (length l.rows) (product (drop (kept_axes l d) l.shape)))

  -- with no dense axis left rows may be listed
  pub lists_zero : d ≡ 0 → lists_row l d ≡ false
  unfolding lists_row
  lists_zero z = rw (le-ltb 0 d (omega arith))

  -- and so they may with the D of the layout or a larger one
  pub lists_same : l.dense ≤ d → lists_row l d ≡ false
  unfolding lists_row
  lists_same h = rw (le-ltb d l.dense h) (second (ltb 0 d))
    where
      second : (t : Bool) → t && false && not (none (removed_rows l d)) ≡ false
      second true = refl
      second false = refl
