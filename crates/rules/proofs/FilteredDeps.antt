-- What a layout keeps of the merged dependencies of two, as their filter. Assumes nothing.
use mathlib.Core.Path.{◌≡◌, refl, sym, ◌∙◌}
use mathlib.Core.Bool.{Bool, true, false, not, ◌&&◌}
use mathlib.Core.Logic.{◌⊎◌, inl, inr, ⊎_elim}
use mathlib.Core.List.Memᴰ
use mathlib.Core.List.{List, [], ◌∷◌}
use Prim.Native.Nat.{ℕ}
use native.Mathlib.Omega.{arith}
use borrow.Author.Tests.{lt-ltb, ltb-false, not-false}
use lib.Dec.{ltb}
use lib.ListN.{length, get_or}
use Rattle.rules.specs.Lists.{none, all_below}
use Rattle.rules.specs.RowsInOrder.{merge, In}
use Rattle.rules.specs.Layout.{Layout, rank, width, is_sparse, alike}
use Rattle.rules.specs.Soundness.{WellFormed}
use Rattle.rules.specs.Dependencies.{index_of, held, filter_deps, bars_filter}
use Rattle.rules.specs.Holding.{is_position, holds}
use Rattle.rules.specs.Intersect.{filtered_by, bars_merged}
use Rattle.rules.specs.ComputedFrom.{Source, State, Input, deps_on, Kept}
use Rattle.rules.proofs.Same.{both_true, true_not_false}
use Rattle.rules.proofs.Sets.{among_in}
use Rattle.rules.proofs.Soundness.{OneKind, dense_case, diagonal_case, sparse_case, one_kind}
use Rattle.rules.proofs.Merging.{merge_only}
use Rattle.rules.proofs.Keeping.{keep_only, keep_passes, keep_has}
use Rattle.rules.proofs.Tests.{true_both}
use Rattle.rules.proofs.Alike.{alike_take}
use Rattle.rules.proofs.Low.{below_at}
use Rattle.rules.proofs.Holding.{Position, holds_position, holds_diagonal, whole_dense, whole_sparse, holds_held}
use Rattle.rules.proofs.EntriesKept.{merge_has}
use Rattle.rules.proofs.Offering.{Solid}

-- ---- the filter

-- a filter that is not barred by some entry is solid
unbarred : (l : Layout) (states inputs : List (List ℕ)) → bars_filter l states inputs ≡ false → {d : List ℕ} → In d states ⊎ In d inputs → Solid l
unfolding bars_filter none
unbarred l states inputs bars {d} m = by (is_sparse l && ltb 0 l.dense) bars
  where
    some : (t : List (List ℕ)) → In d t → none t ≡ true → ⊥
    some [] i e = Memᴰ.not-nil i
    some (x ∷ t) i e = true_not_false e refl

    by : (t : Bool) → t && not (none states && none inputs) ≡ false → t ≡ false
    by false e = refl
    by true e =
        let both = both_true (none states) (none inputs) (not-false (none states && none inputs) e) in
        absurd (⊎_elim (λ i. some states i both.0) (λ i. some inputs i both.1) m)

module _ {l : Layout} (w : WellFormed l) (solid : Solid l) (p : List ℕ) where
  -- what a solid layout that is no diagonal holds is held for the filter
  solid_held : (l.kind ≡ 1 → ⊥) → Position l.shape p → holds l p ≡ held l p
  solid_held n pos = by (one_kind w)
    where
      no_dense : l.kind ≡ 2 → (t : Bool) → ltb 0 l.dense ≡ t → l.dense ≡ 0
      no_dense k true e = absurd (true_not_false (rw (k, e)) solid)
      no_dense k false e = omega (arith, ltb-false 0 l.dense e)

      by : OneKind l → holds l p ≡ held l p
      by (dense_case k) = holds_held w (whole_dense k) pos
      by (diagonal_case k) = absurd (n k)
      by (sparse_case k) = holds_held w (whole_sparse k (no_dense k (ltb 0 l.dense) refl)) pos

  -- a position that is held, of a diagonal (i,..,i), is so for the filter
  pub kept_held : Kept l p → held l p ≡ true
  unfolding held
  kept_held h = by (one_kind w)
    where
      pos : Position l.shape p
      pos = holds_position l p h.is_held

      other : (l.kind ≡ 1 → ⊥) → held l p ≡ true
      other n = sym (solid_held n pos) ∙ h.is_held

      by : OneKind l → held l p ≡ true
      by (dense_case k) = other (λ one. omega arith)
      by (diagonal_case k) =
          let wide = w.diagonal_wide k in
          let first = below_at p l.shape pos.inside 0 (omega (arith, pos.size, wide)) (omega (arith, wide)) in
          rw (k, h.lies_on_diagonal k, lt-ltb (get_or p 0 0) (get_or l.shape 0 0) first)
      by (sparse_case k) = other (λ one. omega arith)

-- an index that is held for the filter is kept, if it has R components, and of a diagonal is a position of the shape
pub held_kept : {l : Layout} → WellFormed l → Solid l → (q : List ℕ) → length q ≡ rank l → (l.kind ≡ 1 → is_position l.shape q ≡ true) → held l q ≡ true → Kept l q
unfolding held
held_kept {l} w solid q n inside h = by (one_kind w)
  where
    other : (l.kind ≡ 1 → ⊥) → all_below q l.shape ≡ true → Kept l q
    other not-one low = record { is_held = solid_held w solid q not-one (record { size = n; inside = low }) ∙ h; lies_on_diagonal = λ one. absurd (not-one one) }

    by : OneKind l → Kept l q
    by (dense_case k) = other (λ one. omega arith) (rw k at h)
    by (diagonal_case k) =
        let on = both_true (alike q) (ltb (get_or q 0 0) (get_or l.shape 0 0)) (rw k at h) in
        record { is_held = holds_diagonal l q k ∙ true_both (inside k) (alike_take (width l) q on.0); lies_on_diagonal = λ _. on.0 }
    by (sparse_case k) = other (λ one. omega arith) (w.rows_lie_below q (among_in q l.rows (rw k at h)))

-- ---- what is filtered

-- filtered dependencies are those of both that are held
module _ (on : Source) (a b l : Layout) {e : List ℕ} where
  -- what is left was listed by one of the two, and is held
  pub filtered_only : In e (deps_on on (filtered_by a b l)) → (In e (deps_on on a) ⊎ In e (deps_on on b)) × (held l (index_of e) ≡ true)
  unfolding filter_deps
  filtered_only = by on
    where
      of : (s t : List (List ℕ)) → In e (filter_deps l (merge s t)) → (In e s ⊎ In e t) × (held l (index_of e) ≡ true)
      of s t i = (merge_only s t (keep_only (λ d. held l (index_of d)) (merge s t) e i), keep_passes (λ d. held l (index_of d)) (merge s t) e i)

      by : (on : Source) → In e (deps_on on (filtered_by a b l)) → (In e (deps_on on a) ⊎ In e (deps_on on b)) × (held l (index_of e) ≡ true)
      by State i = of a.states b.states i
      by Input i = of a.inputs b.inputs i

  -- and all that was is left
  pub filtered_has : In e (deps_on on a) ⊎ In e (deps_on on b) → held l (index_of e) ≡ true → In e (deps_on on (filtered_by a b l))
  unfolding filter_deps
  filtered_has m h = by on m
    where
      by : (on : Source) → In e (deps_on on a) ⊎ In e (deps_on on b) → In e (deps_on on (filtered_by a b l))
      by State i = keep_has (λ d. held l (index_of d)) (merge_has a.states b.states i) h
      by Input i = keep_has (λ d. held l (index_of d)) (merge_has a.inputs b.inputs i) h

  -- with an entry of either, a filter that is not barred is solid
  pub merged_solid : bars_merged a b l ≡ false → In e (deps_on on a) ⊎ In e (deps_on on b) → Solid l
  merged_solid bars m = unbarred l (merge a.states b.states) (merge a.inputs b.inputs) bars (by on m)
    where
      by : (on : Source) → In e (deps_on on a) ⊎ In e (deps_on on b) → In e (merge a.states b.states) ⊎ In e (merge a.inputs b.inputs)
      by State i = inl (merge_has a.states b.states i)
      by Input i = inr (merge_has a.inputs b.inputs i)
