-- The view of a list is made as the list is; and a list of 32-bit numbers is known by its view.
use mathlib.Core.Path.{◌≡◌, refl, sym, ap, ◌∙◌}
use mathlib.Core.List.{List, [], ◌∷◌, ◌++◌, map}
use Prim.Native.Nat.{ℕ, zero, suc, ◌+◌, ◌<◌, ◌^◌}
use native.Mathlib.Omega.{arith}
use lib.IntN.{ℤ, pos, negsuc}
use lib.ListN.{length, get_or, set, take, drop, replicate}
use lib.Seq.{ext_get_or, get_or-set_same, drop-drop}
use lib.Signed.{mag}
use Rattle.rules.specs.Buffers.{part, over, put, zeros}
use Rattle.cells.specs.View.{code, view, Low}

pub view_length : (l : List ℤ) → length (view l) ≡ length l
unfolding view
view_length [] = refl
view_length (z ∷ l) = ap suc (view_length l)

pub view_get_or : (l : List ℤ) (k : ℕ) → get_or (view l) k 0 ≡ code (get_or l k (pos 0))
unfolding view
view_get_or [] k = refl
view_get_or (z ∷ l) zero = refl
view_get_or (z ∷ l) (suc k) = view_get_or l k

pub view_set : (l : List ℤ) (k : ℕ) (z : ℤ) → view (set l k z) ≡ set (view l) k (code z)
unfolding view
view_set [] k z = refl
view_set (y ∷ l) zero z = refl
view_set (y ∷ l) (suc k) z = ap (λ (t : List ℕ). code y ∷ t) (view_set l k z)

-- a number that was stored
pub stored_number : (at n : ℕ) (s : List ℤ) → at < length s → get_or (view (set s at (pos n))) at 0 ≡ n
stored_number at n s h = rw view_set (get_or-set_same (view s) at n 0 (rw view_length h))

pub view_take : (n : ℕ) (l : List ℤ) → view (take n l) ≡ take n (view l)
unfolding view
view_take zero l = refl
view_take (suc n) [] = refl
view_take (suc n) (z ∷ l) = ap (λ (t : List ℕ). code z ∷ t) (view_take n l)

pub view_drop : (n : ℕ) (l : List ℤ) → view (drop n l) ≡ drop n (view l)
unfolding view
view_drop zero l = refl
view_drop (suc n) [] = refl
view_drop (suc n) (z ∷ l) = view_drop n l

pub view_append : (l m : List ℤ) → view (l ++ m) ≡ view l ++ view m
unfolding view
view_append [] m = refl
view_append (z ∷ l) m = ap (λ (t : List ℕ). code z ∷ t) (view_append l m)

pub view_zeros : (n : ℕ) → view (zeros n) ≡ replicate n 0
unfolding view
view_zeros zero = refl
view_zeros (suc n) = ap (λ (t : List ℕ). 0 ∷ t) (view_zeros n)

-- natural numbers are their own codes
pub view_pos : (l : List ℕ) → view (map pos l) ≡ l
unfolding view
view_pos [] = refl
view_pos (n ∷ l) = ap (λ (t : List ℕ). n ∷ t) (view_pos l)

pub view_part : (a n : ℕ) (l : List ℤ) → view (part a n l) ≡ part a n (view l)
unfolding part
view_part a n l = rw (view_take, view_drop)

pub view_over : (new old : List ℤ) → view (over new old) ≡ view new ++ drop (length new) (view old)
unfolding over
view_over new old = rw (view_append, view_drop)

pub view_put : (a : ℕ) (new old : List ℤ) → view (put a new old) ≡ take a (view old) ++ (view new ++ drop (a + length new) (view old))
unfolding put
view_put a new old = rw (view_append, view_take, view_over, view_drop, drop-drop)

-- a number whose code is low is that code
pub low_pos : (z : ℤ) → code z < 2 ^ 31 → z ≡ pos (code z)
low_pos (pos n) h = refl
low_pos (negsuc n) h = absurd (omega arith)

-- no two 32-bit numbers have one code
pub code_one : (x y : ℤ) → mag x < 2 ^ 31 → mag y < 2 ^ 31 → code x ≡ code y → x ≡ y
code_one (pos m) (pos n) h k e = ap pos e
code_one (pos m) (negsuc n) h k e = absurd (omega arith)
code_one (negsuc m) (pos n) h k e = absurd (omega arith)
code_one (negsuc m) (negsuc n) h k e = ap negsuc (omega arith)

-- two lists of 32-bit numbers with one view are one list
pub view_one : (l m : List ℤ) → ((k : ℕ) → mag (get_or l k (pos 0)) < 2 ^ 31) → ((k : ℕ) → mag (get_or m k (pos 0)) < 2 ^ 31) →
    view l ≡ view m → l ≡ m
view_one l m p q e =
    ext_get_or (pos 0) l m (sym (view_length l) ∙ ap length e ∙ view_length m)
    (λ k h. code_one (get_or l k (pos 0)) (get_or m k (pos 0)) (p k) (q k) (sym (view_get_or l k) ∙ ap (λ (t : List ℕ). get_or t k 0) e ∙ view_get_or m k))

-- a list whose view is low holds the natural numbers of its view
pub low_view : (l : List ℤ) → Low (view l) → l ≡ map pos (view l)
unfolding view
low_view [] h = refl
low_view (z ∷ l) h = rw (← low_pos z (h 0)) (ap (λ (t : List ℤ). z ∷ t) (low_view l (λ k. h (suc k))))
