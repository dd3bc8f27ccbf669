-- What the loops of this crate need of a buffer beyond the laws of `rules`. Assumes nothing.
use mathlib.Core.Path.{◌≡◌}
use mathlib.Core.List.{List, [], ◌∷◌, ◌++◌, append_assoc}
use mathlib.Core.Logic.{◌⊎◌, ⊎_elim}
use Prim.Native.Nat.{ℕ, suc, ◌+◌, ◌<◌, ◌≤◌}
use native.Mathlib.Numerals.{add-one}
use native.Mathlib.Omega.{arith}
use lib.IntN.{ℤ}
use lib.ListN.{length, get_or, set, take, drop, length-take, length-drop, take-append-drop}
use lib.Seq.{take-suc, drop-cons, set_at, length-take-le, drop-append-le, drop-drop, get_or-drop}
use Rattle.rules.specs.Buffers.{part, over, put}
use Rattle.rules.proofs.Buffers.{get_or_put_before, get_or_put_behind}

-- a part that was lent and came back written at its front
pub lent_over : (a k : ℕ) (new old : List ℤ) → length new ≤ k → a + k ≤ length old →
    take a old ++ (over new (take k (drop a old)) ++ drop k (drop a old)) ≡ put a new old
unfolding put over
lent_over a k new old h l =
    let fits : length new ≤ length (take k (drop a old)) = simp (length-take, length-drop) (omega arith) in
    rw (append_assoc new, ← drop-append-le (length new) (take k (drop a old)) (drop k (drop a old)) fits, take-append-drop)

-- a number stored right before what was put
pub put_less : (a : ℕ) (new old : List ℤ) (z : ℤ) → a < length old → set (put (suc a) new old) a z ≡ put a (z ∷ new) old
unfolding put over
put_less a new old z h =
    rw (take-suc old a z, append_assoc, set_at (take a old) (get_or old a z) (new ++ drop (length new) (drop (suc a) old)) z a (length-take-le a old (omega arith)), drop-drop (length new) (suc a) old, drop-drop)
    (let e : suc a + length new ≡ a + suc (length new) = omega arith in rw e)

-- a number apart from what was put stays
pub get_or_put_apart : (a : ℕ) (new old : List ℤ) → a ≤ length old → (k : ℕ) (z : ℤ) → (k < a) ⊎ (a + length new ≤ k) →
    get_or (put a new old) k z ≡ get_or old k z
get_or_put_apart a new old start k z h = ⊎_elim (get_or_put_before a new old start k z) (get_or_put_behind a new old start k z) h

-- a part with one number more behind it
pub part_more : (a n : ℕ) (old : List ℤ) (z : ℤ) → a + n < length old → part a n old ++ (get_or old (a + n) z ∷ []) ≡ part a (n + 1) old
unfolding part
part_more a n old z h =
    let l : n < length (drop a old) = simp length-drop (omega arith) in rw (add-one, take-suc (drop a old) n z l, get_or-drop)

-- a part with one number more before it
pub part_less : (a n : ℕ) (old : List ℤ) (z : ℤ) → a < length old → get_or old a z ∷ part (suc a) n old ≡ part a (suc n) old
unfolding part
part_less a n old z h = rw (drop-cons old a z)
