-- How large the numbers of rows and of dependencies are. Assumes nothing.
use mathlib.Core.Path.{◌≡◌, refl, subst}
use mathlib.Core.Bool.{true}
use mathlib.Core.List.{List, [], ◌∷◌}
use Prim.Native.Nat.{ℕ, zero, suc, ◌≤◌, ◌<◌}
use native.Mathlib.Omega.{arith}
use borrow.Author.Tests.{ltb-true, lt-ltb}
use lib.Dec.{ltb}
use lib.ListN.{length, get_or, get_or-eq_default}
use Rattle.rules.specs.Limits.{product_limit}
use Rattle.rules.specs.Lists.{all_below}
use Rattle.rules.specs.RowsInOrder.{merge}
use Rattle.rules.specs.Refusals.{given}
use Rattle.rules.specs.Layout.{Layout, rank}
use Rattle.rules.specs.Soundness.{NumbersBelow, DepsLow, WithinSizes, Sound}
use Rattle.rules.specs.Pairs.{with_merged}
use Rattle.rules.specs.Union.{union}
use Rattle.rules.proofs.Order.{ComparedNumbers, under, even, above, compare_numbers}
use Rattle.rules.proofs.Same.{both_true}
use Rattle.rules.proofs.Sets.{each_append}
use Rattle.rules.proofs.Tests.{true_both}
use Rattle.rules.proofs.Sorting.{sorted_each}
use Rattle.rules.proofs.Extents.{extent_limited}
use Rattle.rules.proofs.Made.{made_sound}
use Rattle.rules.proofs.Lowering.{Lowered}
use Rattle.rules.proofs.Unions.{union_gives}

-- ---- rows

-- a number of a row is below its extent, if the row tests so
pub below_at : (r shape : List ℕ) → all_below r shape ≡ true → (k : ℕ) → k < length r → k < length shape → get_or r k 0 < get_or shape k 0
unfolding all_below
below_at [] shape e k h i = absurd (omega arith)
below_at (c ∷ r) [] e k h i = absurd (omega arith)
below_at (c ∷ r) (n ∷ shape) e zero h i = ltb-true c n (both_true (ltb c n) (all_below r shape) e).0
below_at (c ∷ r) (n ∷ shape) e (suc k) h i = below_at r shape (both_true (ltb c n) (all_below r shape) e).1 k (omega arith) (omega arith)

-- a row tests so, if each of its numbers is below its extent
pub at_below : (r shape : List ℕ) → ((k : ℕ) → k < length r → get_or r k 0 < get_or shape k 0) → all_below r shape ≡ true
unfolding all_below
at_below [] shape f = refl
at_below (c ∷ r) [] f = refl
at_below (c ∷ r) (e ∷ shape) f = true_both (lt-ltb c e (f 0 (omega arith))) (at_below r shape (λ k h. f (suc k) (omega arith)))

-- the numbers of a row that is below the extents of a sound layout are below 65,536
row_low : {l : Layout} → WithinSizes l → (r : List ℕ) → length r ≤ rank l → all_below r l.shape ≡ true → (k : ℕ) → get_or r k 0 < product_limit
row_low {l} w r h e k = go (compare_numbers k (length r))
  where
    past : length r ≤ k → get_or r k 0 < product_limit
    past g = omega (arith, get_or-eq_default r 0 g)

    go : ComparedNumbers k (length r) → get_or r k 0 < product_limit
    go (under g) = omega (arith, below_at r l.shape e k g (omega arith), extent_limited w k)
    go (even g) = past (omega arith)
    go (above g) = past (omega arith)

-- the numbers of the rows of a sound layout are
pub rows_low : {l : Layout} → Sound l → NumbersBelow product_limit l.rows
rows_low {l} s r m = row_low s.sizes r (omega (arith, s.form.row_lengths r m)) (s.form.rows_lie_below r m)

-- and so are those of its rows with a smaller D
pub lowered_low : {l x : Layout} {d : ℕ} → Sound l → Lowered l x d → NumbersBelow product_limit x.rows
lowered_low {l} s p r m = row_low s.sizes r (omega (arith, p.row_lengths r m)) (p.rows_lie_below r m)

-- rows of two such lists, merged, are such
pub merged_low : {n : ℕ} {s t : List (List ℕ)} → NumbersBelow n s → NumbersBelow n t → NumbersBelow n (merge s t)
merged_low f g = sorted_each (each_append f g)

-- ---- dependencies

-- merged dependencies of two such layouts are such
pub merged_deps_low : {a b : Layout} (l : Layout) → DepsLow a → DepsLow b → DepsLow (with_merged a b l)
merged_deps_low l p q = record { states_low = merged_low p.states_low q.states_low; inputs_low = merged_low p.inputs_low q.inputs_low }

-- and so are those of their union
pub union_low : {a b l : Layout} → DepsLow a → DepsLow b → union a b ≡ given l → DepsLow l
union_low {a} {b} p q e =
    let g = union_gives a b e in
    subst DepsLow (made_sound g.was_made).0 (merged_deps_low g.whole p q)
