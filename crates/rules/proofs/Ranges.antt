-- Numbers in a row, and lists made of them. Assumes nothing.
use mathlib.Core.Path.{◌≡◌, refl, sym, ap}
use mathlib.Core.Logic.{⊎_elim}
use mathlib.Core.List.Memᴰ
use mathlib.Core.List.{List, [], ◌∷◌, map, Memᴰ}
use Prim.Native.Nat.{ℕ, zero, suc, ◌+◌, ◌<◌, ◌≤◌}
use native.Mathlib.Omega.{arith}
use lib.ListN.{length, get_or}
use Rattle.std.specs.declared.cmp.Ordering.TheVariants.{Less}
use Rattle.rules.specs.Lists.{from}
use Rattle.rules.specs.RowsInOrder.{cmp_rows, Least, Increasing, increasing_nil, increasing_cons}
use Rattle.rules.proofs.Order.{ComparedNumbers, under, even, above, compare_numbers}

-- of the numbers from a on there are n
pub from_length : (a n : ℕ) → length (from a n) ≡ n
unfolding from
from_length a zero = refl
from_length a (suc n) = ap suc (from_length (suc a) n)

-- number k of the numbers from a on is a + k
pub from_at : (a n k d : ℕ) → k < n → get_or (from a n) k d ≡ a + k
unfolding from
from_at a zero k d h = absurd (omega arith)
from_at a (suc n) zero d h = omega arith
from_at a (suc n) (suc k) d h = omega (arith, from_at (suc a) n k d (omega arith))

-- each of n numbers from a on is at least a and below a + n
pub from_only : {v : ℕ} (a n : ℕ) → Memᴰ v (from a n) → (a ≤ v) × (v < a + n)
unfolding from
from_only a zero m = absurd (Memᴰ.not-nil m)
from_only {v} a (suc n) m =
    let rest = from_only {v = v} (suc a) n in
    ⊎_elim (λ e. omega arith) (λ k. let h = rest k in omega arith) (Memᴰ.cases_cons m)

-- each number that is at least a and below a + n is one of n numbers from a on
pub from_has : {v : ℕ} (a n : ℕ) → a ≤ v → v < a + n → Memᴰ v (from a n)
unfolding from
from_has a zero l h = absurd (omega arith)
from_has {v} a (suc n) l h = go (compare_numbers a v) (from_has (suc a) n)
  where
    go : ComparedNumbers a v → (suc a ≤ v → v < suc a + n → Memᴰ v (from (suc a) n)) → Memᴰ v (a ∷ from (suc a) n)
    go (under s) rest = Memᴰ.tail (rest s (omega arith))
    go (even e) rest = Memᴰ.head (sym e)
    go (above s) rest = absurd (omega arith)

-- element k of a list mapped
pub map_at : {A B : Type 0} (f : A → B) (l : List A) (k : ℕ) (d : A) (e : B) → k < length l → get_or (map f l) k e ≡ f (get_or l k d)
map_at f [] k d e h = absurd (omega arith)
map_at f (x ∷ l) zero d e h = refl
map_at f (x ∷ l) (suc k) d e h = map_at f l k d e (omega arith)

-- functions that agree on n numbers from a on make the same of them
pub map_agree : {A : Type 0} (f g : ℕ → A) (a n : ℕ) → ((k : ℕ) → a ≤ k → k < a + n → f k ≡ g k) → map f (from a n) ≡ map g (from a n)
unfolding from
map_agree f g a zero h = refl
map_agree f g a (suc n) h =
    let rest = map_agree f g (suc a) n (λ k i l. h k (omega arith) (omega arith)) in
    let first = h a (omega arith) (omega arith) in
    cc

-- rows made of numbers that grow increase, if the row of a smaller number is less
pub map_increasing : (f : ℕ → List ℕ) → ((i j : ℕ) → i < j → cmp_rows (f i) (f j) ≡ Less) → (a n : ℕ) → Increasing (map f (from a n))
unfolding from
map_increasing f less a zero = increasing_nil
map_increasing f less a (suc n) = increasing_cons least (map_increasing f less (suc a) n)
  where
    least : Least (f a) (map f (from (suc a) n))
    least r m =
        let k = Memᴰ.of_map f (from (suc a) n) m in
        rw (← k.2) (less a k.0 (from_only (suc a) n k.1).0)
