-- A stretched layout, shape, kind, D and rows, whatever its mode and its dependencies: which rows it has, and when it is formed. Assumes nothing.
use mathlib.Core.Path.{◌≡◌, refl, ◌∙◌}
use mathlib.Core.Bool.{Bool, true, false}
use mathlib.Core.List.{List, [], ◌∷◌, map, Memᴰ}
use Prim.Native.Nat.{ℕ, ◌+◌, ◌*◌, ◌≤◌, ◌<◌}
use native.Mathlib.Omega.{arith}
use borrow.Author.Tests.{le-leb, eq-eqb}
use lib.ListN.{length, get_or, take}
use Rattle.rules.specs.declared.Mode.{Mode}
use Rattle.rules.specs.Limits.{rank_limit, product_limit}
use Rattle.rules.specs.Lists.{implies, gather, product, all_below}
use Rattle.rules.specs.RowsInOrder.{sorted, In, Each, Increasing}
use Rattle.rules.specs.Refusals.{refused}
use Rattle.rules.specs.Layout.{Layout, rank, width, is_diagonal, nonzero_product, alike, with_deps, made}
use Rattle.rules.specs.Soundness.{WellFormed}
use Rattle.rules.specs.Stretching.{shared_axes_fit, is_stretched, take_all, stretch_rows, stretched}
use Rattle.rules.proofs.Same.{true_not_false}
use Rattle.rules.proofs.Sorting.{sorted_increasing, sorted_has, sorted_only}
use Rattle.rules.proofs.Tests.{implied}
use Rattle.rules.proofs.Soundness.{OneKind, dense_case, diagonal_case, sparse_case, one_kind, dense_rows, diagonal_rows_lem, increasing_distinct}
use Rattle.rules.proofs.Low.{below_at, at_below}
use Rattle.rules.proofs.Made.{Formed}
use Rattle.rules.proofs.Forming.{DepsOfRank, Framed, dense_framed, diagonal_framed, sparse_framed, bad_diagonal_made}
use Rattle.rules.proofs.Once.{Once, once_distinct, distinct_once}
use Rattle.rules.proofs.Taking.{Taken, take_only, take_has, take_length, take_once}
use Rattle.rules.proofs.Axes.{stretched_one, unstretched_same, row_axes, row_axis, is_row_axis, row_axes_apart}

-- ---- rows

-- no rows take no values
take_none : (shape axes : List ℕ) → take_all shape axes [] ≡ []
unfolding take_all gather
take_none shape [] = refl
take_none shape (a ∷ axes) = take_none shape axes

-- stretched rows come in order, once each
pub stretch_increasing : (l : Layout) (shape : List ℕ) → Increasing (stretch_rows l shape)
unfolding stretch_rows
stretch_increasing l shape = sorted_increasing (take_all shape (row_axes l shape) l.rows)

-- no rows are stretched to none
pub stretch_none : (l : Layout) (shape : List ℕ) → l.rows ≡ [] → stretch_rows l shape ≡ []
unfolding stretch_rows sorted
stretch_none l shape e = rw (e, take_none shape (row_axes l shape))

module _ {l : Layout} (w : WellFormed l) (shape : List ℕ) where
  -- an axis on which rows are stretched is one of theirs, and had extent 1
  row_axis_one : {k : ℕ} → Memᴰ k (row_axes l shape) → (k < width l) × (get_or l.shape k 0 ≡ 1)
  row_axis_one m = let h = row_axis l shape m in (h.0, stretched_one l.shape shape (omega (arith, h.0)) h.1)

  -- rows are 0 there
  pub row_zero : Each (λ r. (k : ℕ) → Memᴰ k (row_axes l shape) → get_or r k 0 ≡ 0) l.rows
  row_zero r m k i =
      let h = row_axis_one i in
      omega (arith, h.0, h.1, below_at r l.shape (w.rows_lie_below r m) k (omega (arith, h.0, w.row_lengths r m)) (omega (arith, h.0)))

  -- none of the rows that take all values there comes again
  rows_taken_once : Once (take_all shape (row_axes l shape) l.rows)
  rows_taken_once =
      take_once shape (width l) (row_axes l shape) (λ k i. (row_axis l shape i).0) (row_axes_apart l shape) w.row_lengths row_zero
      (distinct_once l.rows w.rows_distinct)

  -- stretched rows number the rows times the product of the new extents on those axes
  pub stretch_length : length (stretch_rows l shape) ≡ length l.rows * product (map (λ axis. get_or shape axis 0) (row_axes l shape))
  unfolding stretch_rows
  stretch_length = once_distinct rows_taken_once ∙ take_length shape (width l) (row_axes l shape) l.rows

  -- each of them is a row, but on those axes it has any value of the shape
  pub stretch_only : {x : List ℕ} → In x (stretch_rows l shape) → (r : List ℕ) × In r l.rows × Taken shape (row_axes l shape) r x
  unfolding stretch_rows
  stretch_only m = take_only shape (width l) (row_axes l shape) (λ k i. (row_axis l shape i).0) w.row_lengths (sorted_only (take_all shape (row_axes l shape) l.rows) m)

  -- and each such row is there
  pub stretch_has : {r x : List ℕ} → In r l.rows → Taken shape (row_axes l shape) r x → In x (stretch_rows l shape)
  unfolding stretch_rows
  stretch_has m t = sorted_has (take_has shape (width l) (row_axes l shape) (λ k i. (row_axis l shape i).0) w.row_lengths m t)

-- ---- shape, kind, D and rows

-- a layout stretches to a shape: shared axes are 1 or equal, and D does not fall below 0
pub record Stretches (l : Layout) (shape : List ℕ) : Type 0 where
  pub fits : shared_axes_fit l.shape shape ≡ true
  pub room : rank l ≤ l.dense + length shape

module _ (mode : Mode) {l : Layout} (w : WellFormed l) {shape : List ℕ} (g : Stretches l shape) where
  -- R - D does not change
  pub stretched_width : width (stretched mode l shape) ≡ width l
  unfolding stretched
  stretched_width = omega (arith, w.dense_most, g.room)

  -- stretched rows have as many numbers
  stretched_sizes : Each (λ r. length r ≡ width l) (stretch_rows l shape)
  stretched_sizes x m = let k = stretch_only w shape m in k.2.size ∙ w.row_lengths k.0 k.1

  -- and are below the new extents
  stretched_inside : Each (λ r. all_below r shape ≡ true) (stretch_rows l shape)
  stretched_inside x m =
      let i = stretch_only w shape m in
      at_below x shape (λ k h. at i.0 i.1 i.2 k (omega (arith, stretched_sizes x m)) (is_stretched l.shape shape k) refl)
    where
      at : (r : List ℕ) → In r l.rows → Taken shape (row_axes l shape) r x → (k : ℕ) → k < width l → (t : Bool) → is_stretched l.shape shape k ≡ t → get_or x k 0 < get_or shape k 0
      at r i t k h true e = t.free k (is_row_axis l shape h (omega (arith, g.room)) e)
      at r i t k h false e =
          let kept = t.kept k (λ m. true_not_false (row_axis l shape m).1 e) in
          let same = unstretched_same l.shape shape g.fits k (omega arith) (omega (arith, g.room)) e in
          omega (arith, kept, same, below_at r l.shape (w.rows_lie_below r i) k (omega (arith, w.row_lengths r i)) (omega arith))

  -- with dependencies of the new rank it is formed, unless it is a diagonal whose first R - D new extents are not alike
  pub stretched_formed : length shape ≤ rank_limit → nonzero_product shape ≤ product_limit → implies (is_diagonal l) (alike (take (width l) shape)) ≡ true →
      {states inputs : List (List ℕ)} → DepsOfRank (length shape) states → DepsOfRank (length shape) inputs → Formed (with_deps states inputs (stretched mode l shape))
  unfolding stretched
  stretched_formed few_axes small e {states} {inputs} p q = by (one_kind w)
    where
      made_of : Layout
      made_of = with_deps states inputs (stretched mode l shape)

      frame : Framed made_of
      frame = record { rank_most = few_axes; product_most = small; states_are = p; inputs_are = q }

      by : OneKind l → Formed made_of
      by (dense_case k) = dense_framed frame k (omega (arith, w.dense_all k)) (stretch_none l shape (dense_rows w k))
      by (diagonal_case k) =
          diagonal_framed frame k (rw stretched_width (w.diagonal_wide k))
          (rw stretched_width (implied (is_diagonal l) (alike (take (width l) shape)) e (eq-eqb l.kind 1 k))) (stretch_none l shape (diagonal_rows_lem w k))
      by (sparse_case k) =
          sparse_framed frame k (omega (arith, w.dense_most)) (increasing_distinct (stretch_increasing l shape))
          (rw stretched_width stretched_sizes) stretched_inside

  -- such a diagonal is refused with 12, whatever the dependencies
  pub stretched_breaks : l.kind ≡ 1 → alike (take (width l) shape) ≡ false → (states inputs : List (List ℕ)) → made (with_deps states inputs (stretched mode l shape)) ≡ refused 12
  unfolding stretched
  stretched_breaks k e states inputs =
      bad_diagonal_made (with_deps states inputs (stretched mode l shape)) k (rw (stretched_width, e, le-leb 1 (width l) (w.diagonal_wide k)))
