-- Numbers that are all equal, and the positions of a diagonal. Assumes nothing.
use mathlib.Core.Path.{◌≡◌, refl, sym, ap, ◌∙◌}
use mathlib.Core.Bool.{Bool, true}
use mathlib.Core.List.Memᴰ
use mathlib.Core.List.{List, [], ◌∷◌, ◌++◌, Memᴰ}
use Prim.Native.Nat.{ℕ, zero, suc, ◌<◌, ◌≤◌}
use native.Mathlib.Omega.{arith}
use borrow.Author.Tests.{eqb-true, eq-eqb, lt-ltb}
use lib.Dec.{eqb}
use lib.ListN.{length, get_or, take, drop, replicate, take-append-drop}
use Rattle.std.specs.declared.cmp.Ordering.TheVariants.{Less}
use Rattle.rules.specs.Lists.{all, all_below}
use Rattle.rules.specs.RowsInOrder.{cmp_rows}
use Rattle.rules.specs.Layout.{alike}
use Rattle.rules.proofs.Order.{cons_less}
use Rattle.rules.proofs.Same.{both_true}
use Rattle.rules.proofs.Tests.{true_both, all_each, each_all, all_at}

-- numbers that all test as v are v, over and over
pub all_replicate : (v : ℕ) (l : List ℕ) → all (eqb v) l ≡ true → l ≡ replicate (length l) v
unfolding all
all_replicate v [] e = refl
all_replicate v (x ∷ l) e =
    let h = both_true (eqb v x) (all (eqb v) l) e in
    let rest = all_replicate v l h.1 in
    let first : v ≡ x = eqb-true v x h.0 in
    cc

-- v, over and over, tests as v
pub replicate_all : (v n : ℕ) → all (eqb v) (replicate n v) ≡ true
unfolding all
replicate_all v zero = refl
replicate_all v (suc n) = true_both (eq-eqb v v refl) (replicate_all v n)

-- numbers that are alike are the first one, over and over
pub alike_replicate : (l : List ℕ) → alike l ≡ true → l ≡ replicate (length l) (get_or l 0 0)
unfolding alike
alike_replicate [] e = refl
alike_replicate (x ∷ l) e = ap (λ (m : List ℕ). x ∷ m) (all_replicate x l e)

-- numbers are alike if each tests as the first one
pub alike_test : (l : List ℕ) → alike l ≡ all (eqb (get_or l 0 0)) l
unfolding alike all
alike_test [] = refl
alike_test (x ∷ l) = rw (eq-eqb x x refl)

-- so those that are alike test as the first one
pub alike_all : (l : List ℕ) → alike l ≡ true → all (eqb (get_or l 0 0)) l ≡ true
alike_all l e = sym (alike_test l) ∙ e

-- numbers that are alike are each the first one
pub alike_at : (l : List ℕ) → alike l ≡ true → (k : ℕ) → k < length l → get_or l k 0 ≡ get_or l 0 0
alike_at l e k h = sym (eqb-true (get_or l 0 0) (get_or l k 0) (all_at (eqb (get_or l 0 0)) l 0 (alike_all l e) k h))

-- the first ones of numbers that are alike are
pub alike_take : (k : ℕ) (l : List ℕ) → alike l ≡ true → alike (take k l) ≡ true
unfolding alike all
alike_take zero l e = refl
alike_take (suc k) [] e = refl
alike_take (suc k) (x ∷ l) e = each_all (eqb x) (take k l) (λ y m. all_each (eqb x) e y (take_in k l m))
  where
    take_in : (k : ℕ) (l : List ℕ) {y : ℕ} → Memᴰ y (take k l) → Memᴰ y l
    take_in k l {y} m = rw take-append-drop at (Memᴰ.append_left (drop k l) m)

-- numbers that are each c are alike
pub at_alike : (c : ℕ) (l : List ℕ) → ((k : ℕ) → k < length l → get_or l k 0 ≡ c) → alike l ≡ true
unfolding alike all
at_alike c [] f = refl
at_alike c (x ∷ l) f = rest l (λ k h. f 0 (omega arith) ∙ sym (f (suc k) (omega arith)))
  where
    rest : (l : List ℕ) → ((k : ℕ) → k < length l → x ≡ get_or l k 0) → all (eqb x) l ≡ true
    rest [] g = refl
    rest (y ∷ l) g = true_both (eq-eqb x y (g 0 (omega arith))) (rest l (λ k h. g (suc k) (omega arith)))

-- numbers that pass a test do with one more that passes
all_more : (test : ℕ → Bool) (l : List ℕ) (x : ℕ) → all test l ≡ true → test x ≡ true → all test (l ++ (x ∷ [])) ≡ true
unfolding all
all_more test [] x e f = rw f
all_more test (y ∷ l) x e f = let h = both_true (test y) (all test l) e in true_both h.0 (all_more test l x h.1 f)

-- numbers that are alike are with the first once more
pub alike_more : (l : List ℕ) → alike l ≡ true → alike (l ++ (get_or l 0 0 ∷ [])) ≡ true
unfolding alike all
alike_more [] e = refl
alike_more (x ∷ l) e = all_more (eqb x) l x e (eq-eqb x x refl)

-- one number is alike, and so is none
pub short_alike : (l : List ℕ) → length l ≤ 1 → alike l ≡ true
unfolding alike all
short_alike [] h = refl
short_alike (x ∷ []) h = refl
short_alike (x ∷ y ∷ l) h = absurd (omega arith)

-- one number, over and over, is alike
pub replicate_alike : (n v : ℕ) → alike (replicate n v) ≡ true
unfolding alike
replicate_alike zero v = refl
replicate_alike (suc n) v = replicate_all v n

-- a number below an extent, over and over, is below a shape of that extent
pub replicate_below : (n e v : ℕ) (shape : List ℕ) → all (eqb e) shape ≡ true → v < e → all_below (replicate n v) shape ≡ true
unfolding all all_below
replicate_below zero e v shape a h = refl
replicate_below (suc n) e v [] a h = refl
replicate_below (suc n) e v (x ∷ shape) a h =
    let k = both_true (eqb e x) (all (eqb e) shape) a in
    true_both (lt-ltb v x (omega (arith, eqb-true e x k.0))) (replicate_below n e v shape k.1 h)

-- the position of a smaller number on a diagonal is less
pub replicate_less : (n : ℕ) → 1 ≤ n → (i j : ℕ) → i < j → cmp_rows (replicate n i) (replicate n j) ≡ Less
replicate_less zero l i j h = absurd (omega arith)
replicate_less (suc n) l i j h = cons_less (replicate n i) (replicate n j) h
