-- The values on some axes are within the limit if the extents are. Assumes nothing.
use mathlib.Core.Path.{◌≡◌}
use mathlib.Core.Bool.{true}
use mathlib.Core.List.{List, [], ◌∷◌}
use mathlib.Core.Logic.{◌⊎◌, inl, inr, ⊎_elim}
use Prim.Native.Nat.{ℕ, suc, ◌<◌, ◌≤◌}
use native.Mathlib.Nat.{one-mul, le_trans}
use native.Mathlib.Omega.{arith}
use borrow.Author.Tests.{le-leb, leb-true}
use lib.ListN.{length, get_or}
use Rattle.rules.specs.Limits.{product_limit}
use Rattle.rules.specs.Lists.{keep, product}
use Rattle.rules.specs.Layout.{within_product, nonzero_product}
use Rattle.rules.proofs.Extents.{nonzero_zero, nonzero_more, nonzero_cons, nonzero_more_axes, nonzero_pos}
use Rattle.rules.proofs.Taking.{axis_or_not}
use Rattle.stretch.proofs.Combinations.{Spreads}

-- 1 more changes nothing
one_more : (p : List ℕ) → nonzero_product (1 ∷ p) ≡ nonzero_product p
one_more p = rw (nonzero_more 1 p (λ z. omega arith), one-mul)

-- extents of which some are replaced by 1 multiply to no more
fewer_values : (p q : List ℕ) → ((k : ℕ) → k < length p → (get_or p k 0 ≡ get_or q k 0) ⊎ (get_or p k 0 ≡ 1)) → nonzero_product p ≤ nonzero_product q
unfolding product keep
fewer_values [] q g = nonzero_pos q
fewer_values (x ∷ p) [] g = by (fewer_values p [] (λ k h. g (suc k) (omega arith))) (g 0 (omega arith))
  where
    by : nonzero_product p ≤ nonzero_product [] → (x ≡ 0) ⊎ (x ≡ 1) → nonzero_product (x ∷ p) ≤ nonzero_product []
    by rest (inl e) = rw (nonzero_zero x p e) rest
    by rest (inr e) = rw (e, one_more p) rest
fewer_values (x ∷ p) (y ∷ q) g = by (fewer_values p q (λ k h. g (suc k) (omega arith))) (g 0 (omega arith))
  where
    by : nonzero_product p ≤ nonzero_product q → (x ≡ y) ⊎ (x ≡ 1) → nonzero_product (x ∷ p) ≤ nonzero_product (y ∷ q)
    by rest (inl e) = rw e (nonzero_cons y p q rest)
    by rest (inr e) = rw (e, one_more p) (le_trans rest (nonzero_more_axes y q))

-- the new extent on some axes and 1 on the others
pub values_within : {new axes values : List ℕ} {n : ℕ} → Spreads new axes values n → within_product new ≡ true → within_product values ≡ true
unfolding within_product
values_within {new} {axes} {values} s e =
    le-leb (nonzero_product values) product_limit
    (le_trans (fewer_values values new (λ k h. ⊎_elim (λ m. inl (s.on k m)) (λ o. inr (s.off k (omega (arith, s.size)) o)) (axis_or_not k axes)))
    (leb-true (nonzero_product new) product_limit e))
