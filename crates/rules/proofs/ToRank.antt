-- Which answer stretching to a rank gives of a sound layout, case by case: 6, 11, or a layout; never 12 or 13. Assumes nothing.
use mathlib.Core.Path.{◌≡◌, refl, sym, ◌∙◌}
use mathlib.Core.Bool.{true, false, not}
use mathlib.Core.List.Memᴰ
use mathlib.Core.List.{List, [], ◌∷◌, ◌++◌, map, Memᴰ}
use Prim.Native.Nat.{ℕ, zero, suc, ◌+◌, ◌-◌, ◌≤◌, ◌<◌}
use native.Mathlib.Nat.{one-mul, le_trans}
use native.Mathlib.Omega.{arith}
use borrow.Author.Tests.{ltb-true, le-leb, lt-leb, eqb-true, eq-eqb, not-true}
use lib.Dec.{eqb, ltb}
use lib.ListN.{length, get_or, take, drop, replicate, length-append, get_or-append}
use lib.Seq.{length-take-le, take-take, take-append-le}
use Rattle.rules.specs.declared.Mode.{Mode}
use Rattle.rules.specs.Limits.{rank_limit, entry_limit}
use Rattle.rules.specs.Lists.{all, gather, with, fit_to}
use Rattle.rules.specs.RowsInOrder.{sorted, In, Each}
use Rattle.rules.specs.Refusals.{given, refused, lowest}
use Rattle.rules.specs.Layout.{Layout, rank, width, is_diagonal, nonzero_product, alike, few}
use Rattle.rules.specs.Soundness.{Sound}
use Rattle.rules.specs.Dependencies.{index_of, on_index}
use Rattle.rules.specs.Stretching.{shared_axes_fit, is_stretched, stretched_axes, take_all, stretch_rows, yields, stretch_deps, stretched, broadcast_to_shape, broadcast_to_rank}
use Rattle.rules.proofs.Order.{ComparedNumbers, under, even, above, compare_numbers}
use Rattle.rules.proofs.Same.{both_true, true_not_false}
use Rattle.rules.proofs.Sets.{in_same}
use Rattle.rules.proofs.Sorting.{sorted_same, sorted_length}
use Rattle.rules.proofs.Few.{sorted_few_lem}
use Rattle.rules.proofs.Tests.{true_both, true_implies, true_either}
use Rattle.rules.proofs.Extents.{nonzero_more, nonzero_take, nonzero_cons}
use Rattle.rules.proofs.Changed.{sorted_map_length}
use Rattle.rules.proofs.Replaced.{with_itself, fit_length, fit_at, fit_past, fit_behind}
use Rattle.rules.proofs.Gathering.{gather_has, gather_each}
use Rattle.rules.proofs.Axes.{kept_only, stretched_below, stretched_one, row_axes}
use Rattle.rules.proofs.Stretching.{Stretches}
use Rattle.rules.proofs.Yielding.{yields_each, yields_itself}
use Rattle.rules.proofs.StretchedAnswers.{stretch_bars, stretch_given}

-- ---- the shape

-- the extents of a shape, cut or with others behind them, fit the shape
cut_fits : (n : ℕ) (shape t : List ℕ) → shared_axes_fit shape (take n (shape ++ t)) ≡ true
unfolding shared_axes_fit
cut_fits n [] t = refl
cut_fits zero (e ∷ shape) t = refl
cut_fits (suc n) (e ∷ shape) t = true_both (true_either (eqb e 1) (eqb e e) (λ _. eq-eqb e e refl)) (cut_fits n shape t)

-- extents 1 behind others do not count
ones_behind : (shape : List ℕ) (n : ℕ) → nonzero_product (shape ++ replicate n 1) ≤ nonzero_product shape
ones_behind (e ∷ shape) n = nonzero_cons e (shape ++ replicate n 1) shape (ones_behind shape n)
ones_behind [] zero = omega arith
ones_behind [] (suc n) = le_trans (one (replicate n 1)) (ones_behind [] n)
  where
    one : (t : List ℕ) → nonzero_product (1 ∷ t) ≤ nonzero_product t
    one t = rw (nonzero_more 1 t (λ z. omega arith), one-mul) (omega arith)

-- the shape fitted to a rank multiplies to no more
pub fit_product : (n : ℕ) (shape : List ℕ) → nonzero_product (fit_to n 1 shape) ≤ nonzero_product shape
unfolding fit_to
fit_product n shape = le_trans (nonzero_take n (shape ++ replicate n 1)) (ones_behind shape n)

-- ---- rows and dependencies

-- no number is there, so there is none
no_axes : (axes : List ℕ) → ((k : ℕ) → Memᴰ k axes → ⊥) → axes ≡ []
no_axes [] f = refl
no_axes (a ∷ axes) f = absurd (f a (Memᴰ.head refl))

module _ (old : List ℕ) (r : ℕ) where
  -- the shape fitted to the rank
  abbrev new : List ℕ
  new = fit_to r 1 old

  -- a dependency fitted to the rank
  abbrev fitted : List ℕ → List ℕ
  fitted d = on_index (fit_to r 0) d

  -- a shared axis is not stretched
  not_shared : {k : ℕ} → k < r → k < length old → is_stretched old new k ≡ true → ⊥
  not_shared {k} h g e =
      let same = fit_at r 1 old k h g ∙ stretched_one old new g e in
      let changes = (both_true (eqb (get_or old k 0) 1) (not (eqb (get_or new k 0) 1)) (rw (lt-leb (length old) k g) at e)).1 in
      true_not_false (eq-eqb (get_or new k 0) 1 same) (not-true (eqb (get_or new k 0) 1) changes)

  -- only added axes are stretched
  only_added : {k : ℕ} → Memᴰ k (stretched_axes old new) → (length old ≤ k) × (k < r)
  only_added {k} m = (by (compare_numbers k (length old)), inside)
    where
      inside : k < r
      inside = omega (arith, (stretched_below old new m).0, fit_length r 1 old)

      by : ComparedNumbers k (length old) → length old ≤ k
      by (under g) = absurd (not_shared inside g (stretched_below old new m).1)
      by (even g) = omega arith
      by (above g) = omega arith

  -- a fitted dependency is 0 on them
  added_zero : (d : List ℕ) {k : ℕ} → length d ≡ suc (length old) → length old ≤ k → k < r → (k < length (fitted d)) × (get_or (fitted d) k 0 ≡ 0)
  unfolding on_index
  added_zero d {k} n h g = (
    rw length-append (omega (arith, fit_length r 0 (index_of d))),
    get_or-append (fit_to r 0 (index_of d)) (drop (length d - 1) d) 0 k (omega (arith, fit_length r 0 (index_of d)))
        ∙ omega (arith, fit_past r 0 (index_of d) k (omega (arith, length-take-le (length d - 1) d (omega arith)))),
  )

  module _ (mode : Mode) where
    -- what a dependency yields
    abbrev given_by : List ℕ → List (List ℕ)
    given_by d = yields mode new (stretched_axes old new) (fitted d)

    -- it is itself fitted, and no more
    only_itself : (d : List ℕ) → length d ≡ suc (length old) → Each (λ x. x ≡ fitted d) (given_by d)
    only_itself d n = yields_each new (stretched_axes old new) mode (λ x. x ≡ fitted d) stays (fitted d) refl
      where
        stays : (x : List ℕ) (axis v : ℕ) → Memᴰ axis (stretched_axes old new) → v < get_or new axis 0 → x ≡ fitted d → with axis v x ≡ fitted d
        stays x axis v m h e =
            let added = only_added m in
            let there = added_zero d n added.0 added.1 in
            let only : v ≡ 0 = omega (arith, h, fit_past r 1 old axis added.0) in
            rw e (with_itself v (fitted d) there.0 (there.1 ∙ sym only))

    itself_there : (d : List ℕ) → length d ≡ suc (length old) → In (fitted d) (given_by d)
    itself_there d n =
        yields_itself new (stretched_axes old new) mode (fitted d)
        (λ k m. let added = only_added m in let there = added_zero d n added.0 added.1 in (there.0, omega (arith, there.1, fit_behind r 1 old k added.0 added.1)))

  -- fitted, sorted and once each, dependencies are not more
  fitted_few : (deps : List (List ℕ)) → length deps ≤ entry_limit → few (sorted (map fitted deps)) ≡ true
  fitted_few deps h = le-leb (length (sorted (map fitted deps))) entry_limit (omega (arith, sorted_map_length fitted deps))

  -- dependencies are fitted to the rank, sorted, once each
  pub rank_deps : (mode : Mode) {deps : List (List ℕ)} → Each (λ d. length d ≡ suc (length old)) deps → length deps ≤ entry_limit →
      stretch_deps mode old (fit_to r 1 old) deps ≡ sorted (map (on_index (fit_to r 0)) deps)
  unfolding stretch_deps
  rank_deps mode {deps} f h = rw (fit_length r 1 old) (sorted_few_lem (gather (given_by mode) deps) (rw same (fitted_few deps h)) ∙ same)
    where
      same : sorted (gather (given_by mode) deps) ≡ sorted (map fitted deps)
      same =
          sorted_same
          (gather_each (given_by mode) (λ d m x i. in_same (only_itself mode d (f d m) x i) (Memᴰ.map fitted m)))
          (λ x m. let k = Memᴰ.of_map fitted deps m in gather_has (given_by mode) k.1 (in_same (sym k.2) (itself_there mode k.0 (f k.0 k.1))))

module _ (l : Layout) (r : ℕ) where
  -- rows are not stretched: they are sorted
  pub rank_rows : stretch_rows l (fit_to r 1 l.shape) ≡ sorted l.rows
  unfolding stretch_rows take_all
  rank_rows = rw (no_axes (row_axes l (fit_to r 1 l.shape)) none_there)
    where
      none_there : (k : ℕ) → Memᴰ k (row_axes l (fit_to r 1 l.shape)) → ⊥
      none_there k m =
          let h = kept_only (λ axis. ltb axis (width l)) (stretched_axes l.shape (fit_to r 1 l.shape)) m in
          omega (arith, ltb-true k (width l) h.1, (only_added l.shape r h.0).0)

  -- with room for its dense axes a layout stretches to that shape
  pub rank_fits : rank l ≤ l.dense + r → Stretches l (fit_to r 1 l.shape)
  unfolding fit_to
  rank_fits room = record { fits = cut_fits r l.shape (replicate r 1); room = rw (fit_length r 1 l.shape) room }

  -- and the first R - D extents stay
  pub rank_front : rank l ≤ l.dense + r → take (width l) (fit_to r 1 l.shape) ≡ take (width l) l.shape
  unfolding fit_to
  rank_front room = take-take (width l) r (l.shape ++ replicate r 1) (omega arith) ∙ take-append-le (width l) l.shape (replicate r 1) (omega arith)

-- ---- the answer

-- a cut axis is not 1: 6
pub rank_disagrees : (mode : Mode) (l : Layout) (r : ℕ) → all (eqb 1) (drop r l.shape) ≡ false → broadcast_to_rank mode l r ≡ refused 6
unfolding broadcast_to_rank lowest
rank_disagrees mode l r e = rw e

module _ (mode : Mode) (l : Layout) (r : ℕ) (e : all (eqb 1) (drop r l.shape) ≡ true) where
  -- otherwise it is stretched to the shape fitted to the rank
  pub rank_stretches : broadcast_to_rank mode l r ≡ broadcast_to_shape mode l (fit_to r 1 l.shape)
  unfolding broadcast_to_rank lowest
  rank_stretches = rw e

  -- D would fall below 0: 11
  pub rank_bars : l.dense + r < rank l → broadcast_to_rank mode l r ≡ refused 11
  unfolding fit_to
  rank_bars h = rank_stretches ∙ stretch_bars mode l (fit_to r 1 l.shape) (cut_fits r l.shape (replicate r 1)) (rw (fit_length r 1 l.shape) h)

  -- otherwise it is given
  pub rank_given : Sound l → r ≤ rank_limit → rank l ≤ l.dense + r → broadcast_to_rank mode l r ≡ given (stretched mode l (fit_to r 1 l.shape))
  unfolding stretched
  rank_given s h room =
      rank_stretches
      ∙ stretch_given mode (rank_fits l r room) s (rw (fit_length r 1 l.shape) h) (le_trans (fit_product r l.shape) s.sizes.product_most)
      (true_implies (is_diagonal l) (alike (take (width l) (fit_to r 1 l.shape))) (λ k. rw (rank_front l r room) (s.form.diagonal_alike (eqb-true l.kind 1 k))))
      ∙ rw (rows_few, deps_few s.form.states_fit.lengths s.sizes.states_few, deps_few s.form.inputs_fit.lengths s.sizes.inputs_few)
    where
      rows_few : few (stretch_rows l (fit_to r 1 l.shape)) ≡ true
      rows_few = rw (rank_rows l r) (le-leb (length (sorted l.rows)) entry_limit (omega (arith, sorted_length l.rows, s.sizes.rows_few)))

      deps_few : {deps : List (List ℕ)} → Each (λ d. length d ≡ suc (rank l)) deps → length deps ≤ entry_limit → few (stretch_deps mode l.shape (fit_to r 1 l.shape) deps) ≡ true
      deps_few {deps} f n = rw (rank_deps l.shape r mode f n) (fitted_few l.shape r deps n)
