-- What a layout offers to an intersection: its dependencies, on the dense axes of a sparse layout with every value. Assumes nothing.
use mathlib.Core.Path.{◌≡◌, refl, sym, ap, ◌∙◌, subst}
use mathlib.Core.Bool.{Bool, true, false, ◌&&◌}
use mathlib.Core.Logic.{◌⊎◌, inl, inr, ⊎_elim}
use mathlib.Core.List.{List}
use Prim.Native.Nat.{ℕ, suc, ◌<◌}
use native.Mathlib.Nat.{sub-zero}
use native.Mathlib.Omega.{arith}
use borrow.Author.Tests.{ltb-true, ltb-false, lt-leb}
use lib.Dec.{ltb, leb}
use lib.ListN.{length}
use Rattle.rules.specs.RowsInOrder.{In, Each}
use Rattle.rules.specs.Layout.{Layout, rank, width, is_sparse, few}
use Rattle.rules.specs.Soundness.{WellFormed}
use Rattle.rules.specs.Removal.{kept_axes, removed_deps, remove_dense_axes}
use Rattle.rules.specs.Pairs.{expanded, lowered, few_of}
use Rattle.rules.specs.ComputedFrom.{Source, State, Input, deps_on, Freely}
use Rattle.rules.proofs.Same.{both_true, true_not_false}
use Rattle.rules.proofs.Soundness.{OneKind, dense_case, diagonal_case, sparse_case, one_kind}
use Rattle.rules.proofs.Sorting.{sorted_has}
use Rattle.rules.proofs.Few.{few_each, few_sorted, sorted_few_lem}
use Rattle.rules.proofs.Lowering.{lowered_diagonal, lowered_same, lowered_removed}
use Rattle.rules.proofs.FreeEntries.{nothing_free, from_itself}
use Rattle.rules.proofs.FreeBehind.{endings, endings_only, endings_has}

-- ---- what a layout offers to an intersection

-- an entry that a dependency takes on the dense axes of a sparse layout
abbrev pub Spread : Layout → List ℕ → List ℕ → Type 0
Spread l d e = Freely (λ k. is_sparse l && leb (width l) k) l.shape l.shape d e

-- an entry that one of its dependencies takes so
pub record Offers (on : Source) (l : Layout) (e : List ℕ) : Type 0 where
  pub dependency : List ℕ
  pub listed : In dependency (deps_on on l)
  pub takes : Spread l dependency e

-- not sparse, or with no dense axis
abbrev pub Solid : Layout → Type 0
Solid l = is_sparse l && ltb 0 l.dense ≡ false

-- the dependencies of a well formed layout have R components and a number
pub dep_length : {l : Layout} → WellFormed l → (on : Source) {d : List ℕ} → In d (deps_on on l) → length d ≡ suc (rank l)
dep_length w State i = w.states_fit.lengths _ i
dep_length w Input i = w.inputs_fit.lengths _ i

module _ {l : Layout} (w : WellFormed l) (solid : Solid l) (on : Source) where
  -- no axis is free then
  none_free : (k : ℕ) → k < rank l → is_sparse l && leb (width l) k ≡ false
  none_free k h = by (is_sparse l) (ltb 0 l.dense) refl solid
    where
      by : (s t : Bool) → ltb 0 l.dense ≡ t → s && t ≡ false → s && leb (width l) k ≡ false
      by true true e f = absurd (true_not_false refl f)
      by true false e f = lt-leb (width l) k (omega (arith, ltb-false 0 l.dense e))
      by false t e f = refl

  -- what such a layout offers is what it lists
  pub offers_listed : {e : List ℕ} → Offers on l e → In e (deps_on on l)
  offers_listed {e} o = subst (λ (r : List ℕ). In r (deps_on on l)) (sym (nothing_free _ l.shape (dep_length w on o.listed) none_free o.takes)) o.listed

  -- and all of that
  pub listed_offers : {e : List ℕ} → In e (deps_on on l) → Offers on l e
  listed_offers {e} i = record { dependency = e; listed = i; takes = from_itself _ l.shape (dep_length w on i) (λ k h t. absurd (true_not_false t (none_free k h))) }

-- ---- a layout whose dense axes are all removed lists what it offered

module _ {l : Layout} (w : WellFormed l) where
  module _ (k : l.kind ≡ 2) {deps : List (List ℕ)} (lengths : Each (λ d. length d ≡ suc (rank l)) deps) where
    -- the first R - D axes stay
    kept_width : kept_axes l 0 ≡ width l
    kept_width = rw sub-zero

    -- removal lists what a dependency takes on the dense axes
    removed_only : {e : List ℕ} → In e (removed_deps l 0 deps) → (d : List ℕ) × In d deps × Spread l d e
    unfolding removed_deps
    removed_only {e} i = rw k (endings_only (width l) l.shape (omega arith) lengths (few_each {P = λ r. In r (endings (width l) l.shape deps)} (λ r m. m) e (rw kept_width at i)))

    -- and all of that, unless it is too much
    removed_has : few (removed_deps l 0 deps) ≡ true → {d e : List ℕ} → In d deps → Spread l d e → In e (removed_deps l 0 deps)
    unfolding removed_deps
    removed_has f {d} {e} m t =
        let all : List (List ℕ) = endings (kept_axes l 0) l.shape deps in
        rw (sorted_few_lem all (sym (few_sorted all) ∙ f)) (sorted_has (rw kept_width (endings_has (width l) l.shape (omega arith) lengths m (rw k at t))))

  -- lowered to no dense axis, a layout that is not dense lists what it did, or what removal lists
  lowered_deps_lem : (on : Source) → (l.kind ≡ 0 → ⊥) → (Solid l × (deps_on on (lowered l 0) ≡ deps_on on l)) ⊎ ((l.kind ≡ 2) × (deps_on on (lowered l 0) ≡ removed_deps l 0 (deps_on on l)))
  unfolding expanded remove_dense_axes
  lowered_deps_lem on n = by (one_kind w)
    where
      expanded_same : (on : Source) → deps_on on (expanded l) ≡ deps_on on l
      expanded_same State = refl
      expanded_same Input = refl

      removed_are : (on : Source) → deps_on on (remove_dense_axes l 0) ≡ removed_deps l 0 (deps_on on l)
      removed_are State = refl
      removed_are Input = refl

      sparse : l.kind ≡ 2 → (t : Bool) → ltb 0 l.dense ≡ t →
          (Solid l × (deps_on on (lowered l 0) ≡ deps_on on l)) ⊎ ((l.kind ≡ 2) × (deps_on on (lowered l 0) ≡ removed_deps l 0 (deps_on on l)))
      sparse k true e = inr (k, ap (deps_on on) (lowered_removed l k (ltb-true 0 l.dense e)) ∙ removed_are on)
      sparse k false e = inl (rw (k, e), ap (deps_on on) (lowered_same l k (omega (arith, ltb-false 0 l.dense e))))

      by : OneKind l → (Solid l × (deps_on on (lowered l 0) ≡ deps_on on l)) ⊎ ((l.kind ≡ 2) × (deps_on on (lowered l 0) ≡ removed_deps l 0 (deps_on on l)))
      by (dense_case k) = absurd (n k)
      by (diagonal_case k) = inl (rw k, ap (deps_on on) (lowered_diagonal l 0 k) ∙ expanded_same on)
      by (sparse_case k) = sparse k (ltb 0 l.dense) refl

  -- that is what it offers, and nothing else
  pub lowered_only : (on : Source) → (l.kind ≡ 0 → ⊥) → {e : List ℕ} → In e (deps_on on (lowered l 0)) → Offers on l e
  lowered_only on n {e} i =
      ⊎_elim (λ h. listed_offers w h.0 on (rw h.1 at i))
      (λ h. let r = removed_only h.0 (λ d m. dep_length w on m) (rw h.1 at i) in record { dependency = r.0; listed = r.1; takes = r.2 }) (lowered_deps_lem on n)

  pub lowered_has : (on : Source) → (l.kind ≡ 0 → ⊥) → few_of (lowered l 0) ≡ true → {e : List ℕ} → Offers on l e → In e (deps_on on (lowered l 0))
  lowered_has on n f {e} o =
      ⊎_elim (λ h. rw h.1 (offers_listed w h.0 on o))
      (λ h. rw h.1 (removed_has h.0 (λ d m. dep_length w on m) (rw (← h.1) (few_deps on)) o.listed o.takes)) (lowered_deps_lem on n)
    where
      few_deps : (on : Source) → few (deps_on on (lowered l 0)) ≡ true
      few_deps State = (both_true (few (lowered l 0).rows) (few (lowered l 0).states) (both_true (few (lowered l 0).rows && few (lowered l 0).states) (few (lowered l 0).inputs) f).0).1
      few_deps Input = (both_true (few (lowered l 0).rows && few (lowered l 0).states) (few (lowered l 0).inputs) f).1
