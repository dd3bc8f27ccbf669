-- Several writes to a lent slice: what the later ones forget, and what they make together. Assumes nothing.
use mathlib.Core.Path.{◌≡◌, refl, sym, ◌∙◌}
use mathlib.Core.List.{List, ◌++◌, append_assoc}
use Prim.Native.Nat.{ℕ, ◌+◌, ◌≤◌}
use native.Mathlib.Nat.{zero-add, add-zero}
use native.Mathlib.Omega.{arith}
use lib.IntN.{ℤ}
use lib.ListN.{length, take, drop, length-append, length-take, length-drop, take-append-drop}
use lib.Seq.{take_at, take-append-le, take-append-add, drop-append-le, drop-append-add, length-take-le}
use Rattle.rules.specs.Buffers.{part, over, put, zeros}
use Rattle.rules.proofs.Buffers.{length_zeros, length_part, length_put, put_front, put_is, lent, take_put, drop_at_put, drop_put}

-- ---- what a later write forgets

-- writing at the front forgets what was written below its end
pub over_put : (newer : List ℤ) (a : ℕ) (new old : List ℤ) → a + length new ≤ length newer → a ≤ length old → over newer (put a new old) ≡ over newer old
unfolding over
over_put newer a new old h l = rw (drop_put a new old l (length newer) h)

-- clearing n numbers forgets what was written below n
pub zeros_put : (n a : ℕ) (new old : List ℤ) → a + length new ≤ n → a ≤ length old → over (zeros n) (put a new old) ≡ over (zeros n) old
zeros_put n a new old h l = over_put (zeros n) a new old (rw length_zeros h) l

-- writing at the front forgets what was written there
pub over_over : (newer new old : List ℤ) → length new ≤ length newer → over newer (over new old) ≡ over newer old
over_over newer new old h = rw (← put_front new old) (over_put newer 0 new old (omega arith) (omega arith))

-- writing from a on forgets what was written there
pub put_put : (a : ℕ) (newer new old : List ℤ) → length new ≤ length newer → a ≤ length old → put a newer (put a new old) ≡ put a newer old
put_put a newer new old h l =
    unfold put in rw (take_put a new old l a (omega arith), drop_at_put a new old l, over_over newer new (drop a old))

-- ---- writes in a row

-- up to the end of a write stand what was before it and what was written
pub take_put_all : (a : ℕ) (new old : List ℤ) → a ≤ length old → take (a + length new) (put a new old) ≡ take a old ++ new
take_put_all a new old h =
    let front : length (take a old ++ new) ≡ a + length new = simp (length-append, length-take) (omega arith) in
    rw (put_is, ← append_assoc) (take_at (take a old ++ new) (drop (a + length new) old) (a + length new) front)

-- writing on right behind a write is one longer write
pub put_behind : (a n : ℕ) (new next old : List ℤ) → length new ≡ n → a ≤ length old → put (a + n) next (put a new old) ≡ put a (new ++ next) old
put_behind a n new next old e h =
    let sum : a + (length new + length next) ≡ a + length new + length next = omega arith in
    rw (← e)
    (rw (put_is (a + length new) next (put a new old), put_is a (new ++ next) old, take_put_all a new old h, drop_put a new old h (a + length new + length next) (omega arith), length-append, sum)
    (simp append_assoc))

-- writing on right behind a write at the front is one longer write
pub put_over : (n : ℕ) (new next old : List ℤ) → length new ≡ n → put n next (over new old) ≡ over (new ++ next) old
put_over n new next old e = rw (← put_front new old, ← put_front (new ++ next) old) (rw zero-add at (put_behind 0 n new next old e (omega arith)))

-- ---- writes in a part

-- a write into the first of two lists
pub put_append : (a : ℕ) (new p q : List ℤ) → a + length new ≤ length p → put a new (p ++ q) ≡ put a new p ++ q
unfolding put over
put_append a new p q h =
    let room : length new ≤ length (drop a p) = simp length-drop (omega arith) in
    rw (take-append-le a p q (omega arith), drop-append-le a p q (omega arith), drop-append-le (length new) (drop a p) q room) (simp append_assoc)

-- a write into the second of two lists
pub put_append_add : (a : ℕ) (new p q : List ℤ) → put (length p + a) new (p ++ q) ≡ p ++ put a new q
unfolding put
put_append_add a new p q = rw (take-append-add, drop-append-add, append_assoc)

-- a write into a lent part is one into the whole
pub put_in_part : (a n b : ℕ) (new old : List ℤ) → b + length new ≤ n → a + n ≤ length old → put a (put b new (part a n old)) old ≡ put (a + b) new old
put_in_part a n b new old h l =
    let size : length (part a n old) ≡ n = length_part a n old l in
    let back : length (put b new (part a n old)) ≡ n = length_put b new (part a n old) (rw size h) ∙ size in
    let before : length (take a old) ≡ a = length-take-le a old (omega arith) in
    let joined : part a n old ++ drop n (drop a old) ≡ drop a old = unfold part in take-append-drop n (drop a old) in
    let inner : put b new (part a n old) ++ drop n (drop a old) ≡ put b new (drop a old) =
    rw joined at (sym (put_append b new (part a n old) (drop n (drop a old)) (rw size h))) in
    sym (lent a n (put b new (part a n old)) old back)
    ∙ rw inner (rw (before, take-append-drop) at (sym (put_append_add b new (take a old) (drop a old))))

-- a write at the front of a lent part is one into the whole
pub over_in_part : (a n : ℕ) (new old : List ℤ) → length new ≤ n → a + n ≤ length old → put a (over new (part a n old)) old ≡ put a new old
over_in_part a n new old h l = rw (← put_front new (part a n old)) (rw add-zero at (put_in_part a n 0 new old (omega arith) l))

-- ---- writes apart

-- writes apart may change their order
pub put_apart : (a b : ℕ) (f g old : List ℤ) → a + length f ≤ b → b ≤ length old → put b g (put a f old) ≡ put a f (put b g old)
put_apart a b f g old h l =
    let size : length (take b old) ≡ b = length-take-le b old l in
    let split : (q : List ℤ) → put a f (take b old ++ q) ≡ put a f (take b old) ++ q = λ q. put_append a f (take b old) q (rw size h) in
    let first : length (put a f (take b old)) ≡ b = length_put a f (take b old) (rw size h) ∙ size in
    let whole : put a f old ≡ put a f (take b old) ++ drop b old = rw take-append-drop at (split (drop b old)) in
    let front : take b (put a f old) ≡ put a f (take b old) = rw whole (take_at (put a f (take b old)) (drop b old) b first) in
    let apart : (d : List ℤ) → put b g d ≡ take b d ++ over g (drop b d) = unfold put in λ d. refl in
    rw (apart (put a f old), apart old, front, drop_put a f old (omega arith) b h, split (over g (drop b old)))
