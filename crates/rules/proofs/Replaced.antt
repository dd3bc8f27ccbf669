-- One number of a list replaced by another, and a list fitted to a length. Assumes nothing.
use mathlib.Core.Path.{◌≡◌, refl, sym, ap, ◌∙◌}
use mathlib.Core.List.{List, [], ◌∷◌, ◌++◌}
use Prim.Native.Nat.{ℕ, zero, suc, ◌≤◌, ◌<◌}
use native.Mathlib.Omega.{arith}
use lib.ListN.{length, get_or, set, take, drop, replicate, length-append, length-set, length-replicate, get_or-append, get_or-eq_default}
use lib.Seq.{length-take-le, set_split, get_or-set_same, get_or-set_other, set-get_or, get_or-take}
use Rattle.rules.specs.Lists.{with, fit_to}
use Rattle.rules.proofs.Order.{ComparedNumbers, under, even, above, compare_numbers}
use Rattle.rules.proofs.Changed.{RowBelow, cons_low, take_low, drop_low, append_low}

-- ---- one number replaced

module _ {k : ℕ} (v : ℕ) (l : List ℕ) (h : k < length l) where
  -- replaced is set
  pub with_set : with k v l ≡ set l k v
  unfolding with
  with_set = sym (set_split l k v h)

  -- there are as many
  pub with_length : length (with k v l) ≡ length l
  with_length = ap length with_set ∙ length-set l k v

  -- the new number stands at its place
  pub with_same : get_or (with k v l) k 0 ≡ v
  with_same = rw with_set (get_or-set_same l k v 0 h)

  -- the same number in its place changes nothing
  pub with_itself : get_or l k 0 ≡ v → with k v l ≡ l
  with_itself e = with_set ∙ ap (λ (x : ℕ). set l k x) (sym e) ∙ set-get_or l k 0

  -- the others stay
  pub with_other : (i : ℕ) → (i ≡ k → ⊥) → get_or (with k v l) i 0 ≡ get_or l i 0
  with_other i n = rw with_set (get_or-set_other l k i v 0 n)

-- the numbers are below b, if they were and the new one is
pub with_low : {b : ℕ} (k v : ℕ) (l : List ℕ) → v < b → RowBelow b l → RowBelow b (with k v l)
unfolding with
with_low k v l h f = append_low (take k l) (v ∷ drop (suc k) l) (take_low k l f) (cons_low (drop (suc k) l) h (drop_low (suc k) l f))

-- ---- a list fitted to a length

-- there are as many as asked
pub fit_length : (n v : ℕ) (l : List ℕ) → length (fit_to n v l) ≡ n
unfolding fit_to
fit_length n v l = length-take-le n (l ++ replicate n v) (rw (length-append, length-replicate) (omega arith))

-- one number, over and over, is below b if it is
pub replicate_low : {b : ℕ} (n v : ℕ) → v < b → RowBelow b (replicate n v)
replicate_low zero v h k = omega arith
replicate_low (suc n) v h zero = h
replicate_low (suc n) v h (suc k) = replicate_low n v h k

-- filled up with 0, they are no larger
pub fit_low : {b : ℕ} (n : ℕ) (l : List ℕ) → RowBelow b l → RowBelow b (fit_to n 0 l)
unfolding fit_to
fit_low n l f = take_low n (l ++ replicate n 0) (append_low l (replicate n 0) f (replicate_low n 0 (omega (arith, f 0))))

-- behind numbers stands v
behind_most : (l : List ℕ) (n v i : ℕ) → length l ≤ i → get_or (l ++ replicate n v) i 0 ≤ v
behind_most [] zero v i h = omega arith
behind_most [] (suc n) v zero h = omega arith
behind_most [] (suc n) v (suc i) h = behind_most [] n v i (omega arith)
behind_most (x ∷ l) n v zero h = absurd (omega arith)
behind_most (x ∷ l) n v (suc i) h = behind_most l n v i (omega arith)

-- as often as it was put there
behind_is : (l : List ℕ) (n v i : ℕ) → length l ≤ i → i < n → get_or (l ++ replicate n v) i 0 ≡ v
behind_is [] zero v i h g = absurd (omega arith)
behind_is [] (suc n) v zero h g = refl
behind_is [] (suc n) v (suc i) h g = behind_is [] n v i (omega arith) (omega arith)
behind_is (x ∷ l) n v zero h g = absurd (omega arith)
behind_is (x ∷ l) n v (suc i) h g = behind_is l n v i (omega arith) (omega arith)

module _ (n v : ℕ) (l : List ℕ) where
  -- the numbers that are there stay
  pub fit_at : (i : ℕ) → i < n → i < length l → get_or (fit_to n v l) i 0 ≡ get_or l i 0
  unfolding fit_to
  fit_at i h g = get_or-take n (l ++ replicate n v) i 0 h ∙ get_or-append l (replicate n v) 0 i g

  -- behind them stands v
  pub fit_behind : (i : ℕ) → length l ≤ i → i < n → get_or (fit_to n v l) i 0 ≡ v
  unfolding fit_to
  fit_behind i h g = get_or-take n (l ++ replicate n v) i 0 g ∙ behind_is l n v i h g

  -- or nothing
  pub fit_past : (i : ℕ) → length l ≤ i → get_or (fit_to n v l) i 0 ≤ v
  unfolding fit_to
  fit_past i h = by (compare_numbers i n)
    where
      nothing : n ≤ i → get_or (fit_to n v l) i 0 ≤ v
      nothing g = omega (arith, get_or-eq_default (fit_to n v l) 0 {n = i} (omega (arith, fit_length n v l)))

      by : ComparedNumbers i n → get_or (fit_to n v l) i 0 ≤ v
      by (under g) = rw (get_or-take n (l ++ replicate n v) i 0 g) (behind_most l n v i h)
      by (even g) = nothing (omega arith)
      by (above g) = nothing (omega arith)
