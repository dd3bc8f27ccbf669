-- What a lent slice holds after a part of it was written. Assumes nothing.
use mathlib.Core.Path.{◌≡◌, refl, sym, ap, ◌∙◌}
use mathlib.Core.List.{List, [], ◌∷◌, ◌++◌, append_assoc}
use Prim.Native.Nat.{ℕ, zero, suc, ◌+◌, ◌-◌, ◌<◌, ◌≤◌}
use native.Mathlib.Nat.{zero-add, suc-add}
use native.Mathlib.Numerals.{add-one}
use native.Mathlib.Omega.{arith}
use lib.IntN.{ℤ, pos}
use lib.ListN.{length, get_or, take, drop, set, length-append, length-take, length-drop, length-replicate, replicate-append-replicate, take-append-drop, get_or-append}
use lib.Seq.{drop_at, take-take, drop-drop, drop-cons, take-nil, take-append-le, take-length, drop-append-add, length-take-le, set-append_seam, get_or-take, get_or-drop}
use Rattle.rules.specs.Buffers.{part, over, put, zeros}

-- ---- zeros

-- n zeros are n numbers
pub length_zeros : (n : ℕ) → length (zeros n) ≡ n
length_zeros n = length-replicate n (pos 0)

-- n zeros and one more
pub zeros_more : (n : ℕ) → zeros n ++ (pos 0 ∷ []) ≡ zeros (n + 1)
zeros_more n = replicate-append-replicate n 1 (pos 0)

-- ---- lengths

-- a part that is there has its length
pub length_part : {A : Type 0} (a n : ℕ) (old : List A) → a + n ≤ length old → length (part a n old) ≡ n
unfolding part
length_part a n old h = simp (length-take, length-drop) (omega arith)

-- what is written from the front on changes no length
pub length_over : (new old : List ℤ) → length new ≤ length old → length (over new old) ≡ length old
unfolding over
length_over new old h = simp (length-append, length-drop) (omega arith)

-- what is written from a on changes no length
pub length_put : (a : ℕ) (new old : List ℤ) → a + length new ≤ length old → length (put a new old) ≡ length old
unfolding put over
length_put a new old h = simp (length-append, length-take, length-drop) (omega arith)

-- ---- one form for another

-- writing nothing at the front changes nothing
pub over_nil : (old : List ℤ) → over [] old ≡ old
unfolding over
over_nil old = refl

-- writing nothing at a changes nothing
pub put_nil : (a : ℕ) (old : List ℤ) → put a [] old ≡ old
unfolding put over
put_nil a old = take-append-drop a old

-- writing at 0 is writing at the front
pub put_front : (new old : List ℤ) → put 0 new old ≡ over new old
unfolding put
put_front new old = refl

-- after a write: what stands before, the new numbers, what stands behind
pub put_is : (a : ℕ) (new old : List ℤ) → put a new old ≡ take a old ++ (new ++ drop (a + length new) old)
unfolding put over
put_is a new old = rw drop-drop

-- a lent part that came back is a write
pub lent : (a n : ℕ) (new old : List ℤ) → length new ≡ n → take a old ++ (new ++ drop n (drop a old)) ≡ put a new old
unfolding put over
lent a n new old e = rw (← e)

-- a lent part that came back as it was changes nothing
pub put_part : (a n : ℕ) (old : List ℤ) → a + n ≤ length old → put a (part a n old) old ≡ old
unfolding put over
put_part a n old h = rw (length_part a n old) (unfold part in rw (take-append-drop, take-append-drop))

-- ---- one number more

-- a store right behind what was written at the front makes it one longer
pub over_more : (new old : List ℤ) (v : ℤ) (n : ℕ) → length new ≡ n → n < length old → set (over new old) n v ≡ over (new ++ (v ∷ [])) old
unfolding over
over_more new old v n e h = rw (← e) (rw (drop-cons old (length new) v (rw e h), set-append_seam, length-append, append_assoc, ← add-one (length new)))

-- a store in the second of two lists
set_append_right : (p q : List ℤ) (n : ℕ) (v : ℤ) → set (p ++ q) (length p + n) v ≡ p ++ set q n v
set_append_right [] q n v = rw zero-add
set_append_right (x ∷ p) q n v = rw suc-add (ap (λ (l : List ℤ). x ∷ l) (set_append_right p q n v))

-- a store right behind what was written from a on makes it one longer
pub put_more : (a : ℕ) (new old : List ℤ) (v : ℤ) (n : ℕ) → length new ≡ n → a + n < length old → set (put a new old) (a + n) v ≡ put a (new ++ (v ∷ [])) old
unfolding put
put_more a new old v n e h =
    let before : length (take a old) ≡ a = length-take-le a old (omega arith) in
    let room : n < length (drop a old) = simp length-drop (omega arith) in
    rw (← over_more new (drop a old) v n e room) (rw before at (set_append_right (take a old) (over new (drop a old)) n v))

-- ---- parts

-- a part is the end of a front
pub part_take : {A : Type 0} (a n : ℕ) (l : List A) → part a n l ≡ drop a (take (a + n) l)
unfolding part
part_take zero n l = rw zero-add
part_take (suc a) n [] = simp take-nil
part_take (suc a) n (x ∷ l) = rw suc-add (part_take a n l)

-- a part of a part is a part
pub part_part : {A : Type 0} (a n b m : ℕ) (l : List A) → b + m ≤ n → part b m (part a n l) ≡ part (a + b) m l
part_part a n b m l h =
    part_take b m (part a n l) ∙ (unfold part in rw (take-take, ← drop-drop) (sym (part_take b m (drop a l))))

-- ---- what is read after a write at the front

-- the numbers behind stay
pub drop_over : (new old : List ℤ) (b : ℕ) → length new ≤ b → drop b (over new old) ≡ drop b old
unfolding over
drop_over new old b h =
    let n : ℕ = b - length new in
    let e : b ≡ length new + n = omega arith in
    rw e (rw (drop-append-add, drop-drop))

-- the start of what was written
pub part_over : (new old : List ℤ) (n : ℕ) → n ≤ length new → part 0 n (over new old) ≡ take n new
unfolding part over
part_over new old n h = take-append-le n new (drop (length new) old) h

-- a part behind stays
pub part_over_behind : (new old : List ℤ) (b n : ℕ) → length new ≤ b → part b n (over new old) ≡ part b n old
unfolding part
part_over_behind new old b n h = rw (drop_over new old b h)

-- ---- what is read after a write from a on

module _ (a : ℕ) (new old : List ℤ) (start : a ≤ length old) where
  -- as many numbers stand before as a says
  before : length (take a old) ≡ a
  before = length-take-le a old start

  -- the numbers before stay
  pub take_put : (b : ℕ) → b ≤ a → take b (put a new old) ≡ take b old
  unfolding put over
  take_put b h = rw (take-append-le b (take a old) (new ++ drop (length new) (drop a old)) (rw before h), take-take)

  -- the numbers from a on are the new ones, and the old ones behind them
  pub drop_at_put : drop a (put a new old) ≡ over new (drop a old)
  unfolding put
  drop_at_put = drop_at (take a old) (over new (drop a old)) a before

  -- the numbers behind stay
  pub drop_put : (b : ℕ) → a + length new ≤ b → drop b (put a new old) ≡ drop b old
  drop_put b h =
      let n : ℕ = b - a in
      let e : b ≡ a + n = omega arith in
      rw e (rw (← drop-drop n a (put a new old), drop_at_put, drop_over new (drop a old) n (omega arith), drop-drop))

  -- the start of what was written
  pub part_put : (n : ℕ) → n ≤ length new → part a n (put a new old) ≡ take n new
  unfolding part
  part_put n h = rw drop_at_put (unfold over in take-append-le n new (drop (length new) (drop a old)) h)

  -- all of what was written
  pub part_put_all : part a (length new) (put a new old) ≡ new
  part_put_all = part_put (length new) (omega arith) ∙ take-length new

  -- a part behind stays
  pub part_put_behind : (b n : ℕ) → a + length new ≤ b → part b n (put a new old) ≡ part b n old
  unfolding part
  part_put_behind b n h = rw (drop_put b h)

  -- a part before stays
  pub part_put_before : (b n : ℕ) → b + n ≤ a → part b n (put a new old) ≡ part b n old
  part_put_before b n h = rw (part_take b n (put a new old), part_take b n old, take_put (b + n) h)

  -- a number that was written
  pub get_or_put : (i : ℕ) (z : ℤ) → i < length new → get_or (put a new old) (a + i) z ≡ get_or new i z
  get_or_put i z h = rw (← get_or-drop a (put a new old) i z, drop_at_put) (unfold over in get_or-append new (drop (length new) (drop a old)) z i h)

  -- a number before stays
  pub get_or_put_before : (i : ℕ) (z : ℤ) → i < a → get_or (put a new old) i z ≡ get_or old i z
  get_or_put_before i z h = rw (← get_or-take a (put a new old) i z h, take_put a (omega arith), get_or-take a old i z h)

  -- a number behind stays
  pub get_or_put_behind : (i : ℕ) (z : ℤ) → a + length new ≤ i → get_or (put a new old) i z ≡ get_or old i z
  get_or_put_behind i z h =
      let b : ℕ = a + length new in
      let e : i ≡ b + (i - b) = omega arith in
      rw e (rw (← get_or-drop b (put a new old) (i - b) z, drop_put b (omega arith), get_or-drop))
