-- What a sound layout is, part by part. Assumes nothing.
use mathlib.Core.Path.{◌≡◌, refl, ap}
use mathlib.Core.Bool.{Bool, true, ◌||◌}
use mathlib.Core.List.{List, [], ◌∷◌}
use Prim.Native.Nat.{ℕ, zero, suc, ◌≤◌, ◌<◌}
use native.Mathlib.Omega.{arith}
use borrow.Author.Tests.{leb-true, le-leb, eqb-true, eq-eqb, eqb-false, ne_eqb}
use lib.ListN.{length, get_or, take}
use lib.Dec.{eqb, leb}
use Rattle.rules.specs.Limits.{rank_limit, entry_limit, product_limit, component_limit}
use Rattle.rules.specs.Lists.{implies, all, none, all_below}
use Rattle.rules.specs.RowsInOrder.{increasing, sorted, In, Increasing, increasing_nil}
use Rattle.rules.specs.Layout.{Layout, rank, width, is_dense, is_diagonal, is_sparse, nonzero_product, within_product, distinct, row_fits, alike, diagonal_fits, deps_fit, well_formed, few, deps_small, within_sizes, sound_layout}
use Rattle.rules.specs.Soundness.{DepsFit, DepsSmall, WellFormed, WithinSizes, Sound}
use Rattle.rules.proofs.Same.{both_true}
use Rattle.rules.proofs.Sets.{increasing_true, true_increasing}
use Rattle.rules.proofs.Sorting.{sorted_id}
use Rattle.rules.proofs.Tests.{conjunct, true_both, true_implies, true_either, none_true, all_each, each_all}

-- ---- dependencies

-- dependencies that test so fit
pub deps_fit_true : (l : Layout) (deps : List (List ℕ)) → deps_fit l deps ≡ true → DepsFit l deps
deps_fit_true l deps e =
    let h = both_true (all (λ d. eqb (length d) (suc (rank l))) deps) (increasing deps) e in
    record {
      lengths = λ d m. eqb-true (length d) (suc (rank l)) (all_each (λ x. eqb (length x) (suc (rank l))) h.0 d m);
      increase = increasing_true deps h.1;
    }

-- dependencies that fit test so
pub true_deps_fit : {l : Layout} {deps : List (List ℕ)} → DepsFit l deps → deps_fit l deps ≡ true
true_deps_fit {l} {deps} f =
    true_both (each_all _ deps (λ d m. eq-eqb (length d) (suc (rank l)) (f.lengths d m))) (true_increasing f.increase)

-- the first n numbers that test as small are
small_at : (n : ℕ) (d : List ℕ) → all (λ c. leb c component_limit) (take n d) ≡ true → (k : ℕ) → k < n → get_or d k 0 ≤ component_limit
unfolding all
small_at zero d e k h = absurd (omega arith)
small_at (suc n) [] e k h = omega arith
small_at (suc n) (c ∷ d) e zero h = leb-true c component_limit (both_true (leb c component_limit) (all (λ c. leb c component_limit) (take n d)) e).0
small_at (suc n) (c ∷ d) e (suc k) h = small_at n d (both_true (leb c component_limit) (all (λ c. leb c component_limit) (take n d)) e).1 k (omega arith)

-- the first n numbers that are small test so
at_small : (n : ℕ) (d : List ℕ) → ((k : ℕ) → k < n → get_or d k 0 ≤ component_limit) → all (λ c. leb c component_limit) (take n d) ≡ true
unfolding all
at_small zero d f = refl
at_small (suc n) [] f = refl
at_small (suc n) (c ∷ d) f = true_both (le-leb c component_limit (f 0 (omega arith))) (at_small n d (λ k h. f (suc k) (omega arith)))

-- dependencies that test as small are
pub deps_small_true : (l : Layout) (deps : List (List ℕ)) → deps_small l deps ≡ true → DepsSmall l deps
deps_small_true l deps e d m = small_at (rank l) d (all_each (λ x. all (λ c. leb c component_limit) (take (rank l) x)) e d m)

-- dependencies that are small test so
pub true_deps_small : (l : Layout) (deps : List (List ℕ)) → DepsSmall l deps → deps_small l deps ≡ true
true_deps_small l deps f = each_all _ deps (λ d m. at_small (rank l) d (f d m))

-- ---- soundness other than by size

-- the tests of a well-formed layout behind the first one
abbrev form_tests : Layout → List Bool
form_tests l =
    leb l.dense (rank l)
    ∷ leb (rank l) rank_limit
    ∷ (is_sparse l || none l.rows)
    ∷ distinct l.rows
    ∷ all (row_fits l) l.rows
    ∷ implies (is_dense l) (eqb l.dense (rank l))
    ∷ implies (is_diagonal l) (diagonal_fits l)
    ∷ deps_fit l l.states
    ∷ deps_fit l l.inputs
    ∷ []

-- a layout that tests as well formed is
pub well_formed_true : {l : Layout} → well_formed l ≡ true → WellFormed l
unfolding well_formed
well_formed_true {l} e = record {
  kind_most = leb-true l.kind 2 (test 0);
  dense_most = leb-true l.dense (rank l) (test 1);
  rank_most = leb-true (rank l) rank_limit (test 2);
  sparse_rows = λ f. none_true (rw (ne_eqb l.kind 2 f) at (test 3));
  rows_distinct = eqb-true (length (sorted l.rows)) (length l.rows) (test 4);
  row_lengths = λ r m. eqb-true (length r) (width l) (fits r m).0;
  rows_lie_below = λ r m. (fits r m).1;
  dense_all = λ k. eqb-true l.dense (rank l) (rw k at (test 6));
  diagonal_wide = λ k. leb-true 1 (width l) (diagonal k).0;
  diagonal_alike = λ k. (diagonal k).1;
  states_fit = deps_fit_true l l.states (test 8);
  inputs_fit = deps_fit_true l l.inputs (test 9);
}
  where
    test : (k : ℕ) → get_or (leb l.kind 2 ∷ form_tests l) k true ≡ true
    test = conjunct (leb l.kind 2) (form_tests l) e

    fits : (r : List ℕ) → In r l.rows → (eqb (length r) (width l) ≡ true) × (all_below r l.shape ≡ true)
    fits r m = both_true (eqb (length r) (width l)) (all_below r l.shape) (all_each (row_fits l) (test 5) r m)

    diagonal : l.kind ≡ 1 → (leb 1 (width l) ≡ true) × (alike (take (width l) l.shape) ≡ true)
    diagonal k = both_true (leb 1 (width l)) (alike (take (width l) l.shape)) (rw k at (test 7))

-- a layout that is well formed tests so
pub true_well_formed : {l : Layout} → WellFormed l → well_formed l ≡ true
unfolding well_formed none
true_well_formed {l} w =
    rw (
      le-leb l.kind 2 w.kind_most,
      le-leb l.dense (rank l) w.dense_most,
      le-leb (rank l) rank_limit w.rank_most,
      rows_if_sparse,
      eq-eqb (length (sorted l.rows)) (length l.rows) w.rows_distinct,
      rows_fit,
      true_implies (is_dense l) (eqb l.dense (rank l)) (λ k. eq-eqb l.dense (rank l) (w.dense_all (eqb-true l.kind 0 k))),
      true_implies (is_diagonal l) (diagonal_fits l) diagonal,
      true_deps_fit w.states_fit,
      true_deps_fit w.inputs_fit,
    )
  where
    rows_if_sparse : is_sparse l || none l.rows ≡ true
    rows_if_sparse = true_either (is_sparse l) (none l.rows) (λ k. rw (w.sparse_rows (eqb-false l.kind 2 k)))

    rows_fit : all (row_fits l) l.rows ≡ true
    rows_fit = each_all (row_fits l) l.rows (λ r m. true_both (eq-eqb (length r) (width l) (w.row_lengths r m)) (w.rows_lie_below r m))

    diagonal : is_diagonal l ≡ true → diagonal_fits l ≡ true
    diagonal k = let one : l.kind ≡ 1 = eqb-true l.kind 1 k in true_both (le-leb 1 (width l) (w.diagonal_wide one)) (w.diagonal_alike one)

-- ---- soundness by size

-- the tests of the sizes behind the first one
abbrev size_tests : Layout → List Bool
size_tests l = few l.rows ∷ few l.states ∷ few l.inputs ∷ deps_small l l.states ∷ deps_small l l.inputs ∷ []

-- a layout that tests as within the sizes is
pub within_sizes_true : {l : Layout} → within_sizes l ≡ true → WithinSizes l
unfolding within_sizes within_product
within_sizes_true {l} e = record {
  product_most = leb-true (nonzero_product l.shape) product_limit (test 0);
  rows_few = leb-true (length l.rows) entry_limit (test 1);
  states_few = leb-true (length l.states) entry_limit (test 2);
  inputs_few = leb-true (length l.inputs) entry_limit (test 3);
  states_small = deps_small_true l l.states (test 4);
  inputs_small = deps_small_true l l.inputs (test 5);
}
  where
    test : (k : ℕ) → get_or (within_product l.shape ∷ size_tests l) k true ≡ true
    test = conjunct (within_product l.shape) (size_tests l) e

-- a layout that is within the sizes tests so
pub true_within_sizes : {l : Layout} → WithinSizes l → within_sizes l ≡ true
unfolding within_sizes within_product
true_within_sizes {l} w =
    rw (
      le-leb (nonzero_product l.shape) product_limit w.product_most,
      le-leb (length l.rows) entry_limit w.rows_few,
      le-leb (length l.states) entry_limit w.states_few,
      le-leb (length l.inputs) entry_limit w.inputs_few,
      true_deps_small l l.states w.states_small,
      true_deps_small l l.inputs w.inputs_small,
    )

-- ---- soundness

-- a layout that tests as sound is
pub sound_true : {l : Layout} → sound_layout l ≡ true → Sound l
unfolding sound_layout
sound_true {l} e = let h = both_true (well_formed l) (within_sizes l) e in record { form = well_formed_true h.0; sizes = within_sizes_true h.1 }

-- a layout that is sound tests so
pub true_sound : {l : Layout} → Sound l → sound_layout l ≡ true
unfolding sound_layout
true_sound s = true_both (true_well_formed s.form) (true_within_sizes s.sizes)

-- ---- by kind

-- a layout is of one of three kinds
pub data OneKind (l : Layout) : Type 0 where
  dense_case : l.kind ≡ 0 → OneKind l
  diagonal_case : l.kind ≡ 1 → OneKind l
  sparse_case : l.kind ≡ 2 → OneKind l

module _ {l : Layout} (w : WellFormed l) where
  -- a well-formed layout is dense, diagonal or sparse
  pub one_kind : OneKind l
  one_kind = by l.kind refl w.kind_most
    where
      by : (k : ℕ) → l.kind ≡ k → k ≤ 2 → OneKind l
      by zero e h = dense_case e
      by (suc zero) e h = diagonal_case e
      by (suc (suc zero)) e h = sparse_case e
      by (suc (suc (suc k))) e h = absurd (omega arith)

  -- a dense layout lists no rows
  pub dense_rows : l.kind ≡ 0 → l.rows ≡ []
  dense_rows k = w.sparse_rows (λ e. omega arith)

  -- a diagonal layout lists no rows
  pub diagonal_rows_lem : l.kind ≡ 1 → l.rows ≡ []
  diagonal_rows_lem k = w.sparse_rows (λ e. omega arith)

  -- a layout that is not sparse has its rows in order
  pub no_rows_increase : (l.kind ≡ 2 → ⊥) → increasing l.rows ≡ true
  no_rows_increase f = rw (w.sparse_rows f) (true_increasing increasing_nil)

  -- rows of a dense layout would have no numbers
  pub dense_width : l.kind ≡ 0 → width l ≡ 0
  dense_width k = omega (arith, w.dense_all k)

  -- with no dense axis rows have R numbers
  pub whole_width : l.dense ≡ 0 → width l ≡ rank l
  whole_width d = omega arith

  -- the rows test as distinct
  pub true_distinct : distinct l.rows ≡ true
  true_distinct = eq-eqb (length (sorted l.rows)) (length l.rows) w.rows_distinct

-- rows that increase are distinct
pub increasing_distinct : {t : List (List ℕ)} → Increasing t → length (sorted t) ≡ length t
increasing_distinct i = ap length (sorted_id i)
