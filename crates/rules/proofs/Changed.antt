-- Dependencies whose index is changed and whose number is kept. Assumes nothing.
use mathlib.Core.Path.{◌≡◌, refl, ◌∙◌, subst}
use mathlib.Core.List.Memᴰ
use mathlib.Core.List.{List, [], ◌∷◌, ◌++◌, map}
use Prim.Native.Nat.{ℕ, zero, suc, ◌-◌, ◌≤◌, ◌<◌}
use native.Mathlib.Omega.{arith}
use lib.ListN.{length, get_or, take, drop, length-append, length-drop, length-map, get_or-append, get_or-eq_default}
use lib.Seq.{length-take-le, get_or-take, get_or-drop}
use Rattle.rules.specs.Limits.{product_limit}
use Rattle.rules.specs.RowsInOrder.{sorted, Each}
use Rattle.rules.specs.Soundness.{NumbersBelow}
use Rattle.rules.specs.Dependencies.{index_of, on_index}
use Rattle.rules.proofs.Order.{ComparedNumbers, under, even, above, compare_numbers}
use Rattle.rules.proofs.Sorting.{sorted_each, sorted_increasing, sorted_length}
use Rattle.rules.proofs.Forming.{DepOfRank, DepsOfRank}

-- ---- how large the numbers of a list are

-- every number is below b
abbrev pub RowBelow : ℕ → List ℕ → Type 0
RowBelow b r = (k : ℕ) → get_or r k 0 < b

module _ {b : ℕ} where
  -- one more in front is, if all are
  pub cons_low : {x : ℕ} (r : List ℕ) → x < b → RowBelow b r → RowBelow b (x ∷ r)
  cons_low r h f zero = h
  cons_low r h f (suc k) = f k

  -- the first ones are, if all are
  pub take_low : (n : ℕ) (r : List ℕ) → RowBelow b r → RowBelow b (take n r)
  take_low zero r f k = omega (arith, f k)
  take_low (suc n) [] f k = f k
  take_low (suc n) (x ∷ r) f zero = f zero
  take_low (suc n) (x ∷ r) f (suc k) = take_low n r (λ i. f (suc i)) k

  -- the last ones are, if all are
  pub drop_low : (n : ℕ) (r : List ℕ) → RowBelow b r → RowBelow b (drop n r)
  drop_low n r f k = rw get_or-drop (f _)

  -- those of two lists are
  pub append_low : (p q : List ℕ) → RowBelow b p → RowBelow b q → RowBelow b (p ++ q)
  append_low [] q f g k = g k
  append_low (x ∷ p) q f g zero = f zero
  append_low (x ∷ p) q f g (suc k) = append_low p q (λ i. f (suc i)) g k

-- ---- one dependency

-- where the first of two lists ends, the second begins
pub at_seam : (p q : List ℕ) {n : ℕ} → length p ≡ n → get_or (p ++ q) n 0 ≡ get_or q 0 0
at_seam [] q e = rw (← e)
at_seam (x ∷ p) q e = rw (← e) (at_seam p q refl)

module _ (f : List ℕ → List ℕ) (d : List ℕ) where
  -- its numbers are below b, if those of a changed index are
  pub changed_low : {b : ℕ} → RowBelow b d → ((i : List ℕ) → RowBelow b i → RowBelow b (f i)) → RowBelow b (on_index f d)
  unfolding on_index
  changed_low g h = append_low (f (index_of d)) (drop (length d - 1) d) (h (index_of d) (take_low (length d - 1) d g)) (drop_low (length d - 1) d g)

  -- it is of the new rank, if a changed index is
  pub changed_of_rank : {n m : ℕ} → DepOfRank n d → ((i : List ℕ) → length i ≡ n → length (f i) ≡ m) →
      ((i : List ℕ) → RowBelow product_limit i → RowBelow product_limit (f i)) → DepOfRank m (on_index f d)
  unfolding on_index
  changed_of_rank {n} {m} p size low = record {
    size = rw (length-append, length-drop, new) (omega (arith, p.size));
    small = λ k h. rw (get_or-append (f (index_of d)) (drop (length d - 1) d) 0 k (omega (arith, new))) (omega (arith, low (index_of d) small k));
  }
    where
      old : length (index_of d) ≡ n
      old = length-take-le (length d - 1) d (omega arith) ∙ omega (arith, p.size)

      new : length (f (index_of d)) ≡ m
      new = size (index_of d) old

      small : RowBelow product_limit (index_of d)
      small k = go (compare_numbers k n)
        where
          past : n ≤ k → get_or (index_of d) k 0 < product_limit
          past h = omega (arith, get_or-eq_default (index_of d) 0 {n = k} (omega (arith, old)))

          go : ComparedNumbers k n → get_or (index_of d) k 0 < product_limit
          go (under h) = rw (get_or-take (length d - 1) d k 0 (omega (arith, p.size))) (omega (arith, p.small k h))
          go (even h) = past (omega arith)
          go (above h) = past (omega arith)

-- ---- a list of them

-- what follows of each row changed holds of every row changed
pub each_map : {P : List ℕ → Type 0} (Q : List ℕ → Type 0) (f : List ℕ → List ℕ) → ((d : List ℕ) → P d → Q (f d)) → {t : List (List ℕ)} → Each P t → Each Q (map f t)
each_map Q f h {t} p r m = let k = Memᴰ.of_map f t m in subst Q k.2 (h k.0 (p k.0 k.1))

-- dependencies changed, sorted and once each are of the new rank, if a changed index is
pub changed_sorted : (f : List ℕ → List ℕ) {n m : ℕ} → ((i : List ℕ) → length i ≡ n → length (f i) ≡ m) →
    ((i : List ℕ) → RowBelow product_limit i → RowBelow product_limit (f i)) → {deps : List (List ℕ)} → DepsOfRank n deps → DepsOfRank m (sorted (map (on_index f) deps))
changed_sorted f {n} {m} size low {deps} p = record {
  each = sorted_each (each_map (DepOfRank m) (on_index f) (λ d q. changed_of_rank f d q size low) p.each);
  increase = sorted_increasing (map (on_index f) deps);
}

-- their numbers are below b, if those of a changed index are
pub changed_sorted_low : (f : List ℕ → List ℕ) {b : ℕ} → ((i : List ℕ) → RowBelow b i → RowBelow b (f i)) →
    {deps : List (List ℕ)} → NumbersBelow b deps → NumbersBelow b (sorted (map (on_index f) deps))
changed_sorted_low f {b} low p = sorted_each (each_map (RowBelow b) (on_index f) (λ d q. changed_low f d q low) p)

-- rows changed and sorted are not more
pub sorted_map_length : (f : List ℕ → List ℕ) (t : List (List ℕ)) → length (sorted (map f t)) ≤ length t
sorted_map_length f t = rw (length-map t f) at (sorted_length (map f t))
