-- Sums over a pile of which two layouts are replaced. Assumes nothing.
use mathlib.Core.Path.{◌≡◌, refl, sym, ap}
use mathlib.Core.Bool.{Bool, true, false, ◌&&◌, ◌||◌}
use mathlib.Core.List.{List, [], ◌∷◌, map}
use Prim.Native.Nat.{ℕ, zero, suc, ◌+◌, ◌<◌}
use native.Mathlib.Omega.{arith}
use lib.ListN.{length, get_or, set, length-set}
use lib.Seq.{get_or-set_other}
use Rattle.rules.specs.Lists.{all, keep, sum, put_if}
use Rattle.rules.specs.Layout.{Layout}
use Rattle.rules.specs.Record.{nowhere}
use Rattle.rules.proofs.Same.{both_true}
use Rattle.rules.proofs.Tests.{true_both}

-- ---- sums

-- one layout replaced: its number comes instead of the old one
sum_set : (f : Layout → ℕ) (t : List Layout) (i : ℕ) (v : Layout) → i < length t → sum (map f (set t i v)) + f (get_or t i nowhere) ≡ sum (map f t) + f v
unfolding sum
sum_set f [] i v h = absurd (omega arith)
sum_set f (x ∷ t) zero v h = omega arith
sum_set f (x ∷ t) (suc i) v h = omega (arith, sum_set f t i v (omega arith))

-- two layouts replaced by others that come to the same number: the sum stays
pub sum_two : (f : Layout → ℕ) (t : List Layout) (i j : ℕ) (u v : Layout) → i < length t → j < length t → (i ≡ j → ⊥) →
    f u + f v ≡ f (get_or t i nowhere) + f (get_or t j nowhere) → sum (map f (set (set t i u) j v)) ≡ sum (map f t)
sum_two f t i j u v h k n e =
    let first = sum_set f t i u h in
    let second = sum_set f (set t i u) j v (rw length-set k) in
    let other : f (get_or (set t i u) j nowhere) ≡ f (get_or t j nowhere) = ap f (get_or-set_other t i j u nowhere (λ d. n (sym d))) in
    omega arith

-- ---- counts

-- a test as a number
abbrev pub bit : Bool → ℕ
bit true = 1
bit false = 0

-- what passes a test is counted one by one
pub count_sum : {A : Type 0} (test : A → Bool) (t : List A) → length (keep test t) ≡ sum (map (λ l. bit (test l)) t)
unfolding keep sum
count_sum test [] = refl
count_sum test (x ∷ t) = go (test x) (count_sum test t)
  where
    go : (b : Bool) → length (keep test t) ≡ sum (map (λ l. bit (test l)) t) → length (put_if b x (keep test t)) ≡ bit b + sum (map (λ l. bit (test l)) t)
    go true e = omega arith
    go false e = omega arith

-- either and both are as many as the one and the other
pub bits : (a b : Bool) → bit (a || b) + bit (a && b) ≡ bit a + bit b
bits true true = refl
bits true false = refl
bits false true = refl
bits false false = refl

-- rows that pass either test and rows that pass both are as many as those that pass the one and the other
pub keep_either_both : (f g h k : List ℕ → Bool) (t : List (List ℕ)) → ((q : List ℕ) → h q ≡ f q || g q) → ((q : List ℕ) → k q ≡ f q && g q) →
    length (keep h t) + length (keep k t) ≡ length (keep f t) + length (keep g t)
unfolding keep
keep_either_both f g h k [] e d = refl
keep_either_both f g h k (x ∷ t) e d = rw (e x, d x) (go (f x) (g x) (keep_either_both f g h k t e d))
  where
    go : (a b : Bool) → length (keep h t) + length (keep k t) ≡ length (keep f t) + length (keep g t) →
        length (put_if (a || b) x (keep h t)) + length (put_if (a && b) x (keep k t)) ≡ length (put_if a x (keep f t)) + length (put_if b x (keep g t))
    go true true r = omega arith
    go true false r = omega arith
    go false true r = omega arith
    go false false r = omega arith

-- ---- a test of all

-- all pass with another that passes in a place
pub all_set : (test : Layout → Bool) (t : List Layout) (i : ℕ) (v : Layout) → all test t ≡ true → test v ≡ true → all test (set t i v) ≡ true
unfolding all
all_set test [] i v e d = refl
all_set test (x ∷ t) zero v e d = true_both d (both_true (test x) (all test t) e).1
all_set test (x ∷ t) (suc i) v e d = let h = both_true (test x) (all test t) e in true_both h.0 (all_set test t i v h.1 d)
