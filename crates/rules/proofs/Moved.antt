-- Numbers moved along a permutation. Assumes nothing.
use mathlib.Core.Path.{◌≡◌, refl, sym, ap, ◌∙◌}
use mathlib.Core.Bool.{Bool, true, false, ◌&&◌}
use mathlib.Core.List.{List, [], ◌∷◌, map}
use Prim.Native.Nat.{ℕ, zero, suc, ◌≤◌, ◌<◌}
use native.Mathlib.Nat.{one-mul, le_trans}
use native.Mathlib.Omega.{arith}
use borrow.Author.Tests.{ltb-true, lt-ltb, eqb-true, eqb-false, eq-eqb, ne_eqb}
use lib.Dec.{eqb, ltb}
use lib.ListN.{length, get_or, length-map}
use lib.Seq.{ext_get_or}
use Rattle.rules.specs.Lists.{if, any, keep, product, from, below, largest, all_below}
use Rattle.rules.specs.Layout.{nonzero_product}
use Rattle.rules.specs.CountsAndForms.{min_rank_of}
use Rattle.rules.specs.Permute.{repeats, moved_to, moved}
use Rattle.rules.proofs.Order.{ComparedNumbers, under, even, above, compare_numbers}
use Rattle.rules.proofs.Same.{both_true, neither}
use Rattle.rules.proofs.Tests.{true_both}
use Rattle.rules.proofs.Extents.{nonzero_pos, nonzero_cons, nonzero_more_axes, nonzero_swap}
use Rattle.rules.proofs.Ranges.{from_length, from_at, map_at, map_agree}
use Rattle.rules.proofs.Largest.{largest_at}
use Rattle.rules.proofs.Low.{below_at}
use Rattle.rules.proofs.Changed.{RowBelow}

-- ---- what goes to an axis

-- there are as many as the largest entry says, and one
pub moved_length : (missing : ℕ) (entries numbers : List ℕ) → length (moved missing entries numbers) ≡ suc (largest entries)
unfolding moved
moved_length missing entries numbers = rw (length-map, from_length)

-- at axis k stands what goes there
pub moved_at : (missing : ℕ) (entries numbers : List ℕ) (k d : ℕ) → k ≤ largest entries → get_or (moved missing entries numbers) k d ≡ moved_to k missing entries numbers
unfolding moved
moved_at missing entries numbers k d h =
    map_at (λ i. moved_to i missing entries numbers) (below (suc (largest entries))) k 0 d (rw from_length (omega arith))
    ∙ ap (λ (i : ℕ). moved_to i missing entries numbers) (from_at 0 (suc (largest entries)) k 0 (omega arith) ∙ omega arith)

-- it is no larger than the numbers are
pub moved_to_low : {b : ℕ} (k : ℕ) (entries numbers : List ℕ) → RowBelow b numbers → moved_to k 0 entries numbers < b
unfolding moved_to
moved_to_low k [] numbers f = omega (arith, f 0)
moved_to_low k (p ∷ entries) [] f = f 0
moved_to_low {b} k (p ∷ entries) (x ∷ numbers) f = go (eqb p k) (moved_to_low k entries numbers (λ i. f (suc i)))
  where
    go : (t : Bool) → moved_to k 0 entries numbers < b → if t x (moved_to k 0 entries numbers) < b
    go true rest = f 0
    go false rest = rest

-- numbers made of others are below b, if each of them is
pub map_low : {b : ℕ} (f : ℕ → ℕ) → ((k : ℕ) → f k < b) → (l : List ℕ) → RowBelow b (map f l)
map_low f h [] k = omega (arith, h 0)
map_low f h (x ∷ l) zero = h x
map_low f h (x ∷ l) (suc k) = map_low f h l k

-- moved numbers are no larger than the numbers are
pub moved_low : {b : ℕ} (entries numbers : List ℕ) → RowBelow b numbers → RowBelow b (moved 0 entries numbers)
unfolding moved
moved_low entries numbers f = map_low (λ k. moved_to k 0 entries numbers) (λ k. moved_to_low k entries numbers f) (below (suc (largest entries)))

-- ---- below the extents

-- a number that goes to an axis is below the extent that goes there, if the numbers are below the extents
moved_to_below : (k : ℕ) (entries r shape : List ℕ) → length r ≡ length shape → all_below r shape ≡ true → moved_to k 0 entries r < moved_to k 1 entries shape
unfolding moved_to all_below
moved_to_below k [] r shape n e = omega arith
moved_to_below k (p ∷ entries) [] [] n e = omega arith
moved_to_below k (p ∷ entries) [] (x ∷ shape) n e = absurd (omega arith)
moved_to_below k (p ∷ entries) (c ∷ r) [] n e = absurd (omega arith)
moved_to_below k (p ∷ entries) (c ∷ r) (x ∷ shape) n e =
    let h = both_true (ltb c x) (all_below r shape) e in
    go (eqb p k) (ltb-true c x h.0) (moved_to_below k entries r shape (omega arith) h.1)
  where
    go : (t : Bool) → c < x → moved_to k 0 entries r < moved_to k 1 entries shape → if t c (moved_to k 0 entries r) < if t x (moved_to k 1 entries shape)
    go true first rest = first
    go false first rest = rest

-- numbers made of the same ones are below each other, if each is
map_below : (f g : ℕ → ℕ) → ((k : ℕ) → f k < g k) → (l : List ℕ) → all_below (map f l) (map g l) ≡ true
unfolding all_below
map_below f g h [] = refl
map_below f g h (x ∷ l) = true_both (lt-ltb (f x) (g x) (h x)) (map_below f g h l)

-- moved numbers are below the moved extents, if they were below the extents
pub moved_below : (entries r shape : List ℕ) → length r ≡ length shape → all_below r shape ≡ true → all_below (moved 0 entries r) (moved 1 entries shape) ≡ true
unfolding moved
moved_below entries r shape n e =
    map_below (λ k. moved_to k 0 entries r) (λ k. moved_to k 1 entries shape) (λ k. moved_to_below k entries r shape n e) (below (suc (largest entries)))

-- ---- the product of the extents

-- one number changed to x multiplies to at most x more
put_product : (p x : ℕ) (f g : ℕ → ℕ) → g p ≡ x → ((k : ℕ) → (p ≡ k → ⊥) → g k ≡ f k) → (a n : ℕ) →
    nonzero_product (map g (from a n)) ≤ nonzero_product (x ∷ map f (from a n))
unfolding from
put_product p x f g e h a zero = nonzero_more_axes x []
put_product p x f g e h a (suc n) = go (compare_numbers p a) (put_product p x f g e h (suc a) n)
  where
    other : (p ≡ a → ⊥) → nonzero_product (map g (from (suc a) n)) ≤ nonzero_product (x ∷ map f (from (suc a) n)) →
        nonzero_product (g a ∷ map g (from (suc a) n)) ≤ nonzero_product (x ∷ f a ∷ map f (from (suc a) n))
    other d rest = rw (h a d, nonzero_swap x (f a)) (nonzero_cons (f a) (map g (from (suc a) n)) (x ∷ map f (from (suc a) n)) rest)

    go : ComparedNumbers p a → nonzero_product (map g (from (suc a) n)) ≤ nonzero_product (x ∷ map f (from (suc a) n)) →
        nonzero_product (g a ∷ map g (from (suc a) n)) ≤ nonzero_product (x ∷ f a ∷ map f (from (suc a) n))
    go (under i) rest = other (λ d. omega arith) rest
    go (above i) rest = other (λ d. omega arith) rest
    go (even d) rest =
        rw (← d, e, map_agree g f (suc p) n (λ k i l. h k (λ q. omega arith)))
        (nonzero_cons x (map f (from (suc p) n)) (f p ∷ map f (from (suc p) n)) (nonzero_more_axes (f p) (map f (from (suc p) n))))

-- extents 1 multiply to 1
ones_product : (a n : ℕ) → nonzero_product (map (λ k. 1) (from a n)) ≤ 1
unfolding from product keep
ones_product a zero = omega arith
ones_product a (suc n) = rw one-mul (ones_product (suc a) n)

-- what goes to n axes from a on multiplies to no more than the extents
moved_from : (entries shape : List ℕ) (a n : ℕ) → nonzero_product (map (λ k. moved_to k 1 entries shape) (from a n)) ≤ nonzero_product shape
unfolding moved_to
moved_from [] shape a n = omega (arith, ones_product a n, nonzero_pos shape)
moved_from (p ∷ entries) [] a n = omega (arith, ones_product a n, nonzero_pos [])
moved_from (p ∷ entries) (x ∷ shape) a n =
    le_trans (put_product p x (λ k. moved_to k 1 entries shape) (λ k. moved_to k 1 (p ∷ entries) (x ∷ shape)) (rw (eq-eqb p p refl)) (λ k d. rw (ne_eqb p k d)) a n)
    (nonzero_cons x (map (λ k. moved_to k 1 entries shape) (from a n)) shape (moved_from entries shape a n))

-- moved extents multiply to no more than the extents
pub moved_product : (entries shape : List ℕ) → nonzero_product (moved 1 entries shape) ≤ nonzero_product shape
unfolding moved
moved_product entries shape = moved_from entries shape 0 (suc (largest entries))

-- ---- nothing is lost

-- where no element passes, the one at an index does not
none_at : (test : ℕ → Bool) (l : List ℕ) → any test l ≡ false → (i : ℕ) → i < length l → test (get_or l i 0) ≡ false
unfolding any
none_at test [] e i h = absurd (omega arith)
none_at test (x ∷ l) e zero h = (neither (test x) (any test l) e).0
none_at test (x ∷ l) e (suc i) h = none_at test l (neither (test x) (any test l) e).1 i (omega arith)

-- to an axis without an entry goes what is missing
pub moved_to_missing : (missing k : ℕ) (entries numbers : List ℕ) → any (eqb k) entries ≡ false → moved_to k missing entries numbers ≡ missing
unfolding moved_to any
moved_to_missing missing k [] numbers e = refl
moved_to_missing missing k (p ∷ entries) [] e = refl
moved_to_missing missing k (p ∷ entries) (x ∷ numbers) e =
    let h = neither (eqb k p) (any (eqb k) entries) e in
    rw (ne_eqb p k (λ d. eqb-false k p h.0 (sym d))) (moved_to_missing missing k entries numbers h.1)

-- each number goes to its entry, if no entry stands there twice
pub moved_to_entry : (missing : ℕ) (entries numbers : List ℕ) → repeats entries ≡ false → (i : ℕ) → i < length entries → i < length numbers →
    moved_to (get_or entries i 0) missing entries numbers ≡ get_or numbers i 0
unfolding moved_to repeats
moved_to_entry missing [] numbers e i h g = absurd (omega arith)
moved_to_entry missing (p ∷ entries) [] e i h g = absurd (omega arith)
moved_to_entry missing (p ∷ entries) (x ∷ numbers) e zero h g = rw (eq-eqb p p refl)
moved_to_entry missing (p ∷ entries) (x ∷ numbers) e (suc i) h g =
    let new = neither (any (eqb p) entries) (repeats entries) e in
    rw (none_at (eqb p) entries new.0 i (omega arith)) (moved_to_entry missing entries numbers new.1 i (omega arith) (omega arith))

-- the extents past `min_rank` are 1
pub past_min_rank : (shape : List ℕ) (i : ℕ) → min_rank_of shape ≤ i → i < length shape → get_or shape i 0 ≡ 1
unfolding min_rank_of
past_min_rank [] i h g = absurd (omega arith)
past_min_rank (e ∷ shape) i h g = by i (eqb e 1 && eqb (min_rank_of shape) 0) refl (past_min_rank shape) h g
  where
    by : (i : ℕ) (t : Bool) → eqb e 1 && eqb (min_rank_of shape) 0 ≡ t → ((j : ℕ) → min_rank_of shape ≤ j → j < length shape → get_or shape j 0 ≡ 1) →
        if t 0 (suc (min_rank_of shape)) ≤ i → i < suc (length shape) → get_or (e ∷ shape) i 0 ≡ 1
    by zero true q rest h g = eqb-true e 1 (both_true (eqb e 1) (eqb (min_rank_of shape) 0) q).0
    by zero false q rest h g = absurd (omega arith)
    by (suc i) true q rest h g = rest i (omega (arith, eqb-true (min_rank_of shape) 0 (both_true (eqb e 1) (eqb (min_rank_of shape) 0) q).1)) (omega arith)
    by (suc i) false q rest h g = rest i (omega arith) (omega arith)

module _ (entries shape : List ℕ) (least : min_rank_of shape ≤ length entries) (once : repeats entries ≡ false) where
  -- indices of a shape whose wide axes all have an entry are the same, if they are moved to the same
  pub moved_apart : (r s : List ℕ) → length r ≡ length shape → length s ≡ length shape → all_below r shape ≡ true → all_below s shape ≡ true →
      moved 0 entries r ≡ moved 0 entries s → r ≡ s
  moved_apart r s m n p q e = ext_get_or 0 r s (m ∙ sym n) (λ i h. at i (omega arith) (compare_numbers i (length entries)))
    where
      entry : (i : ℕ) → get_or entries i 0 ≤ largest entries
      entry i = largest_at entries i

      named : (x : List ℕ) → length x ≡ length shape → (i : ℕ) → i < length shape → i < length entries → get_or (moved 0 entries x) (get_or entries i 0) 0 ≡ get_or x i 0
      named x k i h g = moved_at 0 entries x (get_or entries i 0) 0 (entry i) ∙ moved_to_entry 0 entries x once i g (omega arith)

      narrow : (i : ℕ) → i < length shape → length entries ≤ i → get_or r i 0 ≡ get_or s i 0
      narrow i h g =
          omega (arith, past_min_rank shape i (omega arith) h, below_at r shape p i (omega arith) h, below_at s shape q i (omega arith) h)

      at : (i : ℕ) → i < length shape → ComparedNumbers i (length entries) → get_or r i 0 ≡ get_or s i 0
      at i h (under g) = sym (named r m i h g) ∙ ap (λ (x : List ℕ). get_or x (get_or entries i 0) 0) e ∙ named s n i h g
      at i h (even g) = narrow i h (omega arith)
      at i h (above g) = narrow i h (omega arith)
