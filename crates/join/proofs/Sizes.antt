-- When a layout with the dependencies of all blocks is within the sizes, and that rows within the extents are small. Assumes nothing.
use mathlib.Core.Path.{◌≡◌, refl, sym, ◌∙◌}
use mathlib.Core.Bool.{Bool, true, false, ◌&&◌}
use mathlib.Core.List.{List, [], ◌∷◌}
use Prim.Native.Nat.{ℕ, zero, suc, ◌-◌}
use native.Mathlib.Nat.{le_trans}
use native.Mathlib.Omega.{arith}
use borrow.Author.Tests.{ltb-true, lt-ltb, leb-true, le-leb}
use lib.Dec.{leb, ltb}
use lib.ListN.{length, take, replicate, get_or-replicate}
use Rattle.rules.specs.Limits.{product_limit, component_limit}
use Rattle.rules.specs.Lists.{all, all_below}
use Rattle.rules.specs.RowsInOrder.{sorted}
use Rattle.rules.specs.Layout.{Layout, rank, few, nonzero_product, within_product, within_sizes}
use Rattle.rules.specs.Soundness.{WellFormed}
use Rattle.rules.specs.Concatenate.{Block, joined_deps}
use Rattle.rules.proofs.Same.{decided}
use Rattle.rules.proofs.Tests.{all_each, each_all}
use Rattle.rules.proofs.Sorting.{sorted_has, sorted_only}
use Rattle.rules.proofs.Low.{below_at, at_below}
use Rattle.rules.proofs.Extents.{extent_nonzero}
use Rattle.entries.specs.declared.entries.Listed.TheVariants.{Rows, States, Inputs}
use Rattle.entries.specs.Merging.{small_to, joined}
use Rattle.join.specs.Assembling.{sparse_of, with_joined, deps_kept}

-- ---- small entries

limit_same : (c : ℕ) → ltb c product_limit ≡ leb c component_limit
limit_same c =
    decided (ltb c product_limit) (leb c component_limit) (λ e. le-leb c component_limit (omega (arith, ltb-true c product_limit e))) (λ e. lt-ltb c product_limit (omega (arith, leb-true c component_limit e)))

-- an entry is small as soundness has it
small_test : (r : ℕ) (d : List ℕ) → small_to r d ≡ all (λ c. leb c component_limit) (take r d)
unfolding all_below all
small_test zero [] = refl
small_test zero (c ∷ d) = refl
small_test (suc r) [] = refl
small_test (suc r) (c ∷ d) = rw (limit_same c, small_test r d)

-- so are all of them, sorted or not
small_sorted : (r : ℕ) (rows : List (List ℕ)) → all (λ d. all (λ c. leb c component_limit) (take r d)) (sorted rows) ≡ all (small_to r) rows
small_sorted r rows =
    decided (all (λ d. all (λ c. leb c component_limit) (take r d)) (sorted rows)) (all (small_to r) rows)
    (λ e. each_all (small_to r) rows (λ d m. small_test r d ∙ all_each (λ d. all (λ c. leb c component_limit) (take r d)) e d (sorted_has m)))
    (λ e. each_all (λ d. all (λ c. leb c component_limit) (take r d)) (sorted rows) (λ d m. sym (small_test r d) ∙ all_each (small_to r) e d (sorted_only rows m)))

-- ---- within the sizes

pub sizes_kept : (r : ℕ) (blocks : List Block) (l : Layout) → rank l ≡ r → within_sizes (with_joined r blocks l) ≡ within_product l.shape && few l.rows && deps_kept r blocks
unfolding within_sizes joined_deps
sizes_kept r blocks l e =
    rw (e, small_sorted r (joined States r blocks), small_sorted r (joined Inputs r blocks))
    (shuffled (within_product l.shape) (few l.rows) (few (sorted (joined States r blocks))) (few (sorted (joined Inputs r blocks))) (all (small_to r) (joined States r blocks)) (all (small_to r) (joined Inputs r blocks)))
  where
    shuffled : (p f s i x y : Bool) → p && f && s && i && x && y ≡ p && f && ((x && s) && (y && i))
    shuffled true true true true true true = refl
    shuffled true true true true true false = refl
    shuffled true true true true false true = refl
    shuffled true true true true false false = refl
    shuffled true true true false true true = refl
    shuffled true true true false true false = refl
    shuffled true true true false false y = refl
    shuffled true true false i true y = refl
    shuffled true true false i false y = refl
    shuffled true false s i x y = refl
    shuffled false f s i x y = refl

-- ---- rows

-- rows that are below extents within the limit are small
pub rows_small : (d : ℕ) (shape : List ℕ) (r : ℕ) (blocks : List Block) → WellFormed (sparse_of d shape r blocks) → length shape ≡ r → within_product shape ≡ true →
    all (small_to (r - d)) (joined Rows r blocks) ≡ true
unfolding within_product
rows_small d shape r blocks f e w =
    each_all (small_to (r - d)) (joined Rows r blocks)
    (λ q m.
    let long = f.row_lengths q (sorted_has m) in
    at_below q (replicate (r - d) product_limit)
    (λ k h.
    let most = le_trans (extent_nonzero shape k 0 (omega arith)) (leb-true (nonzero_product shape) product_limit w) in
    omega (arith, get_or-replicate (r - d) k product_limit 0 (omega (arith, long, e)), below_at q shape (f.rows_lie_below q (sorted_has m)) k h (omega (arith, long)), most)))
