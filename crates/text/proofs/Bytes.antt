-- What a lent slice of bytes holds after some were written. Assumes nothing.
use mathlib.Core.Path.{◌≡◌, refl, sym, ◌∙◌}
use mathlib.Core.List.{List, [], ◌∷◌, ◌++◌, append_assoc}
use Prim.Native.Nat.{ℕ, suc, ◌+◌, ◌<◌, ◌≤◌}
use native.Mathlib.Nat.{add-zero}
use native.Mathlib.Numerals.{add-one}
use native.Mathlib.Omega.{arith}
use lib.ListN.{length, take, drop, set, length-append, length-take, take-append-drop}
use lib.Seq.{take_at, drop_at, drop-drop, drop-append-add, take-set-le, set_split, length-take-le}
use Rattle.text.specs.Placed.{put_bytes, Wrote}

-- writing nothing changes nothing
pub put_nil : (a : ℕ) (old : List ℕ) → put_bytes a [] old ≡ old
unfolding put_bytes
put_nil a old = rw add-zero (take-append-drop a old)

-- a store is a write of one byte
pub put_one : (a : ℕ) (b : ℕ) (old : List ℕ) → a < length old → set old a b ≡ put_bytes a (b ∷ []) old
unfolding put_bytes
put_one a b old h = rw add-one (set_split old a b h)

-- the last byte of a write may be stored first
pub put_last : (a n : ℕ) (new old : List ℕ) (b : ℕ) → length new ≡ n → a + n < length old → put_bytes a (new ++ (b ∷ [])) old ≡ put_bytes a new (set old (a + n) b)
unfolding put_bytes
put_last a n new old b e h =
    let before : length (take (a + n) old) ≡ a + n = length-take-le (a + n) old (omega arith) in
    let behind : drop (a + n) (set old (a + n) b) ≡ b ∷ drop (suc (a + n)) old =
    rw (set_split old (a + n) b h) (drop_at (take (a + n) old) (b ∷ drop (suc (a + n)) old) (a + n) before) in
    let sum : a + (n + 1) ≡ suc (a + n) = omega arith in
    rw (e, take-set-le a old (a + n) b (omega arith), behind, length-append, e, sum, append_assoc)

-- writing on right behind a write is one longer write
pub put_behind : (a n : ℕ) (new next old : List ℕ) → length new ≡ n → a + n ≤ length old → put_bytes (a + n) next (put_bytes a new old) ≡ put_bytes a (new ++ next) old
unfolding put_bytes
put_behind a n new next old e h =
    let behind : List ℕ = drop (a + n) old in
    let front : length (take a old ++ new) ≡ a + n = simp (length-append, length-take) (omega arith) in
    let sum : a + (n + length next) ≡ a + n + length next = omega arith in
    let whole : take a old ++ (new ++ behind) ≡ (take a old ++ new) ++ behind = sym (append_assoc (take a old) new behind) in
    let far : drop (a + n + length next) ((take a old ++ new) ++ behind) ≡ drop (a + n + length next) old =
    rw front at (drop-append-add (take a old ++ new) behind (length next)) ∙ drop-drop (length next) (a + n) old in
    rw (length-append new next, e, sum, whole, take_at (take a old ++ new) behind (a + n) front, far) (simp append_assoc)

-- one byte before a write
pub wrote_behind : {most a : ℕ} {new old now : List ℕ} {r : ℕ} (b : ℕ) → a < length old → Wrote most (a + 1) new (set old a b) now r → Wrote (most + 1) a (b ∷ new) old now r
wrote_behind {most} {a} {new} {old} b h w =
    let s = w.short in
    let e = w.end in
    record { short = omega arith; end = omega arith; is = w.is ∙ rw (put_one a b old h) (put_behind a 1 (b ∷ []) new old refl (omega arith)) }
