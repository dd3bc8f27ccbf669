-- What a stretched layout holds. Assumes nothing.
use mathlib.Core.Path.{◌≡◌, refl, sym, ap, ◌∙◌}
use mathlib.Core.Bool.{Bool, true, false, ◌&&◌}
use mathlib.Core.List.{List, map, Memᴰ}
use Prim.Native.Nat.{ℕ, ◌≤◌, ◌<◌}
use native.Mathlib.Omega.{arith}
use lib.ListN.{length, get_or, take, length-map, get_or-eq_default}
use lib.Seq.{length-take-le, get_or-take, ext_get_or}
use Rattle.rules.specs.declared.Mode.{Mode}
use Rattle.rules.specs.Lists.{if, below}
use Rattle.rules.specs.RowsInOrder.{In}
use Rattle.rules.specs.Layout.{Layout, rank, width}
use Rattle.rules.specs.Soundness.{WellFormed}
use Rattle.rules.specs.Stretching.{is_stretched, stretched}
use Rattle.rules.specs.Holding.{is_position, holds}
use Rattle.rules.proofs.Order.{ComparedNumbers, under, even, above, compare_numbers}
use Rattle.rules.proofs.Same.{both_true, true_not_false, decided}
use Rattle.rules.proofs.Sets.{in_same}
use Rattle.rules.proofs.Tests.{true_both}
use Rattle.rules.proofs.Soundness.{OneKind, dense_case, diagonal_case, sparse_case, one_kind}
use Rattle.rules.proofs.Ranges.{from_length, from_at, map_at}
use Rattle.rules.proofs.Low.{below_at, at_below}
use Rattle.rules.proofs.Holding.{Position, position_true, true_position, holds_position, holds_dense, sparse_true, true_sparse}
use Rattle.rules.proofs.Taking.{Taken}
use Rattle.rules.proofs.Axes.{stretched_one, unstretched_same, row_axes, row_axis, is_row_axis}
use Rattle.rules.proofs.Stretching.{row_zero, stretch_only, stretch_has, Stretches, stretched_width}

-- ---- where a position comes from

-- cut to the old rank, with 0 on the stretched axes
unfoldable pub came_from : List ℕ → List ℕ → List ℕ → List ℕ
came_from old shape index = map (λ k. if (is_stretched old shape k) 0 (get_or index k 0)) (below (length old))

module _ (old shape index : List ℕ) where
  -- it has the old rank
  came_length : length (came_from old shape index) ≡ length old
  unfolding came_from
  came_length = rw (length-map, from_length)

  -- its components
  came_at : (k : ℕ) → k < length old → get_or (came_from old shape index) k 0 ≡ if (is_stretched old shape k) 0 (get_or index k 0)
  unfolding came_from
  came_at k h =
      map_at (λ i. if (is_stretched old shape i) 0 (get_or index i 0)) (below (length old)) k 0 0 (rw from_length h)
      ∙ ap (λ (i : ℕ). if (is_stretched old shape i) 0 (get_or index i 0)) (from_at 0 (length old) k 0 h ∙ omega arith)

  -- on a stretched axis: 0
  came_stretched : (k : ℕ) → k < length old → is_stretched old shape k ≡ true → get_or (came_from old shape index) k 0 ≡ 0
  came_stretched k h e = came_at k h ∙ rw e

  -- on another: the component there
  came_same : (k : ℕ) → k < length old → is_stretched old shape k ≡ false → get_or (came_from old shape index) k 0 ≡ get_or index k 0
  came_same k h e = came_at k h ∙ rw e

-- ---- what is held

-- a layout that stretches to a shape, where no extent that is cut is 0
module _ {l : Layout} (w : WellFormed l) {shape : List ℕ} (g : Stretches l shape) (cut : (k : ℕ) → length shape ≤ k → k < rank l → 0 < get_or l.shape k 0) where
  -- a position of the new shape comes from one of the old
  came_position : {index : List ℕ} → Position shape index → Position l.shape (came_from l.shape shape index)
  came_position {index} p = record {
    size = came_length l.shape shape index;
    inside = at_below (came_from l.shape shape index) l.shape (λ k h. at k (omega (arith, came_length l.shape shape index)) (is_stretched l.shape shape k) refl (compare_numbers k (length shape)));
  }
    where
      past : (k : ℕ) → k < rank l → length shape ≤ k → is_stretched l.shape shape k ≡ false → get_or (came_from l.shape shape index) k 0 < get_or l.shape k 0
      past k h i e = omega (arith, came_same l.shape shape index k h e, get_or-eq_default index 0 {n = k} (omega (arith, p.size)), cut k i h)

      at : (k : ℕ) → k < rank l → (t : Bool) → is_stretched l.shape shape k ≡ t → ComparedNumbers k (length shape) → get_or (came_from l.shape shape index) k 0 < get_or l.shape k 0
      at k h true e c = omega (arith, came_stretched l.shape shape index k h e, stretched_one l.shape shape h e)
      at k h false e (under i) =
          omega (arith, came_same l.shape shape index k h e, below_at index shape p.inside k (omega (arith, p.size)) i, unstretched_same l.shape shape g.fits k h i e)
      at k h false e (even i) = past k h (omega arith) e
      at k h false e (above i) = past k h (omega arith) e

  module _ {index : List ℕ} (p : Position shape index) where
    -- the first R - D components of a position
    abbrev front : List ℕ
    front = take (width l) index

    -- and those of what it comes from
    abbrev old_front : List ℕ
    old_front = take (width l) (came_from l.shape shape index)

    front_length : length front ≡ width l
    front_length = length-take-le (width l) index (omega (arith, p.size, g.room))

    old_length : length old_front ≡ width l
    old_length = length-take-le (width l) (came_from l.shape shape index) (omega (arith, came_length l.shape shape index))

    -- of a stretched row they come from the row
    old_row : {r : List ℕ} → In r l.rows → Taken shape (row_axes l shape) r front → old_front ≡ r
    old_row {r} m t = ext_get_or 0 old_front r (old_length ∙ sym (w.row_lengths r m)) (λ k h. at k (omega (arith, old_length)) (is_stretched l.shape shape k) refl)
      where
        at : (k : ℕ) → k < width l → (b : Bool) → is_stretched l.shape shape k ≡ b → get_or old_front k 0 ≡ get_or r k 0
        at k h true e =
            get_or-take (width l) (came_from l.shape shape index) k 0 h ∙ came_stretched l.shape shape index k (omega arith) e
            ∙ sym (row_zero w shape r m k (is_row_axis l shape h (omega (arith, g.room)) e))
        at k h false e =
            get_or-take (width l) (came_from l.shape shape index) k 0 h ∙ came_same l.shape shape index k (omega arith) e
            ∙ sym (get_or-take (width l) index k 0 h) ∙ t.kept k (λ i. true_not_false (row_axis l shape i).1 e)

    -- and they are what it is stretched to
    new_row : Taken shape (row_axes l shape) old_front front
    new_row = record {
      size = front_length ∙ sym old_length;
      kept = λ k o. kept k o (compare_numbers k (width l));
      free = λ k i.
          let h = (row_axis l shape i).0 in
          rw (get_or-take (width l) index k 0 h) (below_at index shape p.inside k (omega (arith, p.size, g.room)) (omega (arith, g.room)));
    }
      where
        past : (k : ℕ) → width l ≤ k → get_or front k 0 ≡ get_or old_front k 0
        past k h = get_or-eq_default front 0 {n = k} (omega (arith, front_length)) ∙ sym (get_or-eq_default old_front 0 {n = k} (omega (arith, old_length)))

        inside : (k : ℕ) → k < width l → (b : Bool) → is_stretched l.shape shape k ≡ b → (Memᴰ k (row_axes l shape) → ⊥) → get_or front k 0 ≡ get_or old_front k 0
        inside k h true e o = absurd (o (is_row_axis l shape h (omega (arith, g.room)) e))
        inside k h false e o =
            get_or-take (width l) index k 0 h ∙ sym (get_or-take (width l) (came_from l.shape shape index) k 0 h ∙ came_same l.shape shape index k (omega arith) e)

        kept : (k : ℕ) → (Memᴰ k (row_axes l shape) → ⊥) → ComparedNumbers k (width l) → get_or front k 0 ≡ get_or old_front k 0
        kept k o (under h) = inside k h (is_stretched l.shape shape k) refl o
        kept k o (even h) = past k (omega arith)
        kept k o (above h) = past k (omega arith)

  -- a stretched dense or sparse layout holds a position exactly if the old one holds what it comes from
  pub stretched_holds : (mode : Mode) → (l.kind ≡ 1 → ⊥) → (index : List ℕ) → holds (stretched mode l shape) index ≡ is_position shape index && holds l (came_from l.shape shape index)
  unfolding stretched
  stretched_holds mode n index = by (one_kind w)
    where
      came : List ℕ
      came = came_from l.shape shape index

      dense : l.kind ≡ 0 → holds (stretched mode l shape) index ≡ is_position shape index && holds l came
      dense k =
          decided (holds (stretched mode l shape) index) (is_position shape index && holds l came)
          (λ h. let p = holds_position (stretched mode l shape) index h in true_both (true_position p) (holds_dense l came k ∙ true_position (came_position p)))
          (λ h. holds_dense (stretched mode l shape) index k ∙ (both_true (is_position shape index) (holds l came) h).0)

      sparse : l.kind ≡ 2 → holds (stretched mode l shape) index ≡ is_position shape index && holds l came
      sparse k = decided (holds (stretched mode l shape) index) (is_position shape index && holds l came) there back
        where
          there : holds (stretched mode l shape) index ≡ true → is_position shape index && holds l came ≡ true
          there h =
              let on = sparse_true (stretched mode l shape) index k h in
              let x = stretch_only w shape (rw (stretched_width mode w g) at on.1) in
              true_both (true_position on.0) (true_sparse l came k (came_position on.0) (in_same (old_row on.0 x.1 x.2) x.1))

          back : is_position shape index && holds l came ≡ true → holds (stretched mode l shape) index ≡ true
          back h =
              let both = both_true (is_position shape index) (holds l came) h in
              let p = position_true shape index both.0 in
              true_sparse (stretched mode l shape) index k p (rw (stretched_width mode w g) (stretch_has w shape (sparse_true l came k both.1).1 (new_row p)))

      by : OneKind l → holds (stretched mode l shape) index ≡ is_position shape index && holds l came
      by (dense_case k) = dense k
      by (diagonal_case k) = absurd (n k)
      by (sparse_case k) = sparse k
