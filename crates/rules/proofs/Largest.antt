-- The larger of two numbers, and the largest of a list. Assumes nothing.
use mathlib.Core.Path.{◌≡◌, refl}
use mathlib.Core.Bool.{Bool, true, false}
use mathlib.Core.List.{List, [], ◌∷◌, Memᴰ}
use Prim.Native.Nat.{ℕ, zero, suc, ◌<◌, ◌≤◌}
use native.Mathlib.Nat.{le_trans}
use native.Mathlib.Omega.{arith}
use borrow.Author.Tests.{lt-ltb, le-ltb, ltb-true, ltb-false}
use lib.Dec.{ltb}
use lib.ListN.{get_or}
use Rattle.rules.specs.Lists.{larger, largest}

-- the larger of two numbers is the second where that is larger
pub larger_second : (x y : ℕ) → x < y → y ≡ larger x y
larger_second x y h = rw (lt-ltb x y h)

-- otherwise it is the first
pub larger_first : (x y : ℕ) → y ≤ x → x ≡ larger x y
larger_first x y h = rw (le-ltb x y h)

pub ruleset larger_laws = (larger_second, larger_first)

-- neither of two is above the larger one, and it is the least such
pub record Larger (x y z : ℕ) : Type 0 where
  pub first : x ≤ z
  pub second : y ≤ z
  pub least : (m : ℕ) → x ≤ m → y ≤ m → z ≤ m

-- the larger of two numbers is so
pub larger_is : (x y : ℕ) → Larger x y (larger x y)
larger_is x y = by (ltb x y) refl
  where
    by : (t : Bool) → ltb x y ≡ t → Larger x y (larger x y)
    by true e = let h = ltb-true x y e in rw e (record { first = omega arith; second = omega arith; least = λ m p q. q })
    by false e = let h = ltb-false x y e in rw e (record { first = omega arith; second = omega arith; least = λ m p q. p })

-- the number at an index is at most the largest
pub largest_at : (numbers : List ℕ) (i : ℕ) → get_or numbers i 0 ≤ largest numbers
unfolding largest
largest_at [] i = omega arith
largest_at (x ∷ numbers) zero = (larger_is x (largest numbers)).first
largest_at (x ∷ numbers) (suc i) = le_trans (largest_at numbers i) (larger_is x (largest numbers)).second

-- each number is at most the largest
pub largest_each : {n : ℕ} {numbers : List ℕ} → Memᴰ n numbers → n ≤ largest numbers
unfolding largest
largest_each (Memᴰ.head {x} {xs = numbers} e) = rw e (larger_is x (largest numbers)).first
largest_each (Memᴰ.tail {x} {xs = numbers} m) = le_trans (largest_each m) (larger_is x (largest numbers)).second

-- the largest is at most what each number is at most
pub largest_most : {m : ℕ} (numbers : List ℕ) → ((n : ℕ) → Memᴰ n numbers → n ≤ m) → largest numbers ≤ m
unfolding largest
largest_most [] f = omega arith
largest_most {m} (x ∷ numbers) f = (larger_is x (largest numbers)).least m (f x (Memᴰ.head refl)) (largest_most numbers (λ n i. f n (Memᴰ.tail i)))
