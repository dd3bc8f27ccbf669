-- Rows that number the product of the extents are all there can be: a sparse layout that turns dense holds the same. Assumes nothing.
use mathlib.Core.Path.{◌≡◌, refl, ap, ◌∙◌}
use mathlib.Core.Bool.{Bool, true, false, ◌&&◌}
use mathlib.Core.Logic.{⊎_elim}
use mathlib.Core.List.Memᴰ
use mathlib.Core.List.{List, [], ◌∷◌, ◌++◌}
use Prim.Native.Nat.{ℕ, zero, suc, ◌*◌, ◌≤◌}
use native.Mathlib.Nat.{mul_assoc, mul-one, mul-le-mul}
use native.Mathlib.Omega.{arith}
use borrow.Author.Tests.{eqb-true}
use lib.Dec.{eqb, ltb}
use lib.ListN.{length, take, drop, length-take}
use lib.Seq.{take_all}
use Rattle.rules.specs.Lists.{if, product, all_below}
use Rattle.rules.specs.RowsInOrder.{sorted, In, Each, Increasing}
use Rattle.rules.specs.Layout.{Layout, width, is_sparse}
use Rattle.rules.specs.CountsAndForms.{to_dense, dense_if_full}
use Rattle.rules.specs.Holding.{holds}
use Rattle.rules.proofs.Same.{both_true, decided}
use Rattle.rules.proofs.Sets.{in_or_not, each_append, Subset}
use Rattle.rules.proofs.Sorting.{insert_each, insert_increasing, insert_length_new, sorted_increasing, sorted_has, sorted_only, sorted_each, sorted_length, sorted_is, sorted_id}
use Rattle.rules.proofs.Merging.{merge_length_left}
use Rattle.rules.proofs.Tests.{true_both}
use Rattle.rules.proofs.Indices.{positions_length, ravel_below}
use Rattle.rules.proofs.Holding.{Position, true_position, position_in, position_behind, holds_position, holds_dense, true_sparse}

-- ---- how many rows others have among them

-- rows that increase are not more than rows that hold them all
subset_length : {a b : List (List ℕ)} → Increasing a → Subset a b → length a ≤ length b
subset_length {a} {b} i f =
    let all_in : sorted (a ++ b) ≡ sorted b = sorted_is (sorted_increasing b) (each_append (λ r m. sorted_has (f r m)) (λ r m. sorted_has m)) (λ r m. sorted_append m) in
    omega (arith, ap length (sorted_id i), merge_length_left a b, ap length all_in, sorted_length b)
  where
    sorted_append : {r : List ℕ} → In r (sorted b) → In r (a ++ b)
    sorted_append m = Memᴰ.append_right a (sorted_only b m)

-- rows that increase and are as many as rows that hold them all have each of them
pub full_has : {a b : List (List ℕ)} → Increasing a → Subset a b → length b ≤ length a → {y : List ℕ} → In y b → In y a
full_has {a} {b} i f n {y} m = ⊎_elim (λ k. k) more (in_or_not y a)
  where
    more : (In y a → ⊥) → In y a
    more o = absurd (omega (arith, insert_length_new y a o, subset_length (insert_increasing y i) (insert_each {P = λ r. In r b} y m f)))

-- ---- the first axes

-- the first k components are below the first k extents
front_below : (index shape : List ℕ) (k : ℕ) → all_below index shape ≡ true → all_below (take k index) (take k shape) ≡ true
unfolding all_below
front_below index shape zero b = refl
front_below [] shape (suc k) b = refl
front_below (c ∷ index) [] (suc k) b = refl
front_below (c ∷ index) (e ∷ shape) (suc k) b =
    let h = both_true (ltb c e) (all_below index shape) b in
    true_both h.0 (front_below index shape k h.1)

-- up to any axis, a position is one of the axes there
position_front : {shape index : List ℕ} → Position shape index → (k : ℕ) → Position (take k shape) (take k index)
position_front {shape} {index} p k = record { size = simp length-take (omega arith); inside = front_below index shape k p.inside }

-- the product of the extents is that of the first ones times that of the others
product_split : (k : ℕ) (shape : List ℕ) → product shape ≡ product (take k shape) * product (drop k shape)
unfolding product
product_split zero shape = omega arith
product_split (suc k) [] = refl
product_split (suc k) (e ∷ shape) = rw (product_split k shape, mul_assoc)

-- where there is a position, the first axes have at most as many as all axes
product_front : {shape index : List ℕ} → Position shape index → (k : ℕ) → product (take k shape) ≤ product shape
product_front {shape} {index} p k =
    let q = position_behind p k in
    let some : 1 ≤ product (drop k shape) = omega (arith, ravel_below (drop k index) (drop k shape) q.size q.inside) in
    let times : product (take k shape) * 1 ≤ product (take k shape) * product (drop k shape) = mul-le-mul {m₂ = product (drop k shape)} (omega arith) some in
    rw (product_split k shape) (rw mul-one at times)

-- ---- a sparse layout that turns dense

-- a sparse layout of rows with R - D numbers below the extents, no two equal
module _ (l : Layout) (k : l.kind ≡ 2) (once : length (sorted l.rows) ≡ length l.rows) (sizes : Each (λ r. length r ≡ width l) l.rows) (inside : Each (λ r. all_below r l.shape ≡ true) l.rows) where
  -- a row is a position of the first R - D axes
  row_front : Each (Position (take (width l) l.shape)) l.rows
  row_front r m = record {
    size = simp length-take (omega (arith, sizes r m));
    inside = rw (take_all (width l) r (omega (arith, sizes r m))) at (front_below r l.shape (width l) (inside r m));
  }

  -- it holds all positions if its rows number the product
  pub full_holds : length l.rows ≡ product l.shape → (index : List ℕ) → holds (to_dense l) index ≡ holds l index
  unfolding to_dense
  full_holds n index = decided (holds (to_dense l) index) (holds l index) there (λ h. holds_dense (to_dense l) index refl ∙ true_position (holds_position l index h))
    where
      listed : Position l.shape index → In (take (width l) index) l.rows
      listed p =
          sorted_only l.rows
          (full_has (sorted_increasing l.rows) (sorted_each (λ r m. position_in (row_front r m)))
          (omega (arith, positions_length (take (width l) l.shape), product_front p (width l), once, n)) (position_in (position_front p (width l))))

      there : holds (to_dense l) index ≡ true → holds l index ≡ true
      there h =
          let p : Position l.shape index = holds_position (to_dense l) index h in
          true_sparse l index k p (listed p)

  -- dense if full, it holds the same
  pub dense_if_full_holds : (index : List ℕ) → holds (dense_if_full l) index ≡ holds l index
  unfolding dense_if_full
  dense_if_full_holds index = go (is_sparse l && eqb (length l.rows) (product l.shape)) refl
    where
      go : (t : Bool) → is_sparse l && eqb (length l.rows) (product l.shape) ≡ t → holds (if t (to_dense l) l) index ≡ holds l index
      go true e = full_holds (eqb-true (length l.rows) (product l.shape) (both_true (is_sparse l) _ e).1) index
      go false e = refl

-- dense if full, a sparse layout is no diagonal
pub full_diagonal : (l : Layout) → l.kind ≡ 2 → (dense_if_full l).kind ≡ 1 → ⊥
unfolding dense_if_full to_dense
full_diagonal l e = go (is_sparse l && eqb (length l.rows) (product l.shape))
  where
    go : (t : Bool) → (if t (to_dense l) l).kind ≡ 1 → ⊥
    go true k = omega arith
    go false k = omega arith
