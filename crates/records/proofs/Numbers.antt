-- `all_natural`, `small_numbers` and `alike`: the numbers of a part put to a test. Assumes nothing.
use Rattle.std.specs.Prelude.{None, Some}
use mathlib.Core.Path.{◌≡◌, refl, sym, ◌∙◌}
use mathlib.Core.Bool.{Bool, true, false, not, ◌&&◌, and-true}
use mathlib.Core.List.{List}
use mathlib.Core.Logic.{◌⊎◌, inl, inr, ⊎_elim}
use Prim.Native.Nat.{ℕ, zero, suc, ◌+◌, ◌^◌, ◌<◌, ◌≤◌}
use native.Mathlib.Omega.{arith}
use borrow.Author.Count.{below_none, below_more}
use borrow.Author.Tests.{ltb-true, le-leb, lt-leb, not-true, not-false}
use lib.Dec.{eqb}
use lib.IntN.{ℤ, pos, negsuc}
use lib.ListN.{length, get_or, take}
use lib.Seq.{length-take-le, get_or-take}
use lib.Signed.{mag, lt_z, le_z, non_neg}
use Rattle.std.specs.Ordering.{ord_min, int_cmp}
use Rattle.rules.specs.Lists.{all}
use Rattle.rules.specs.Buffers.{part}
use Rattle.rules.specs.Layout.{alike}
use Rattle.rules.proofs.Alike.{alike_test}
use Rattle.rules.proofs.Same.{true_not_false}
use Rattle.cells.specs.View.{view, Low, sign_of}
use Rattle.cells.proofs.View.{view_get_or}
use Rattle.cells.proofs.Signed.{held, back, natural_code}
use Rattle.tables.specs.Rows.{HasRow}
use Rattle.tables.proofs.Rows.{row_length, row_number, row_low}
use Rattle.axes.proofs.Pairs.{pair_row, pair_first, pair_second}
use Rattle.records.specs.Judging.{small}
use Rattle.records.proofs.Sections.{sign_natural, sign_negative}
use Rattle.records.proofs.Naturals.{low_front}
use Rattle.tables.proofs.Passing.{Passed, none_passed, one_more, one_fails, all_passed}

-- ---- none is negative

-- a natural number passes
pub natural_passes : (z : ℤ) {m : ℕ} → sign_of z ≡ Some m → non_neg z ≡ true
natural_passes z e = rw (sign_natural z e)

-- a negative one does not
pub negative_fails : (z : ℤ) → sign_of z ≡ None → non_neg z ≡ false
negative_fails z e = rw (sign_negative z e)

-- so is it where it is tested against 0
tested_natural : (z : ℤ) → lt_z z (pos 0) ≡ false → non_neg z ≡ true
tested_natural (pos n) e = refl
tested_natural (negsuc n) e = cc e

tested_negative : (z : ℤ) → lt_z z (pos 0) ≡ true → non_neg z ≡ false
tested_negative (pos n) e = absurd (let h = ltb-true n 0 e in omega arith)
tested_negative (negsuc n) e = refl

-- what is less than a negative number is negative
less_negative : (x y : ℤ) → lt_z x y ≡ true → lt_z y (pos 0) ≡ true → lt_z x (pos 0) ≡ true
less_negative x (pos n) e f = absurd (let h = ltb-true n 0 f in omega arith)
less_negative (pos m) (negsuc n) e f = cc e
less_negative (negsuc m) (negsuc n) e f = refl

-- 0 is at most the number that the bits stand for
least_natural : (z : ℤ) → z ≡ pos 0 → le_z (pos 0) z ≡ true
least_natural z e = rw e

least_negative : (z : ℤ) → lt_z z (pos 0) ≡ true → le_z (pos 0) z ≡ false
least_negative (pos n) e = absurd (let h = ltb-true n 0 e in omega arith)
least_negative (negsuc n) e = refl

-- the first k of n numbers are natural and small
pub record NaturalUpTo (n k : ℕ) (s : List ℤ) : Type 0 where
  pub passed : Passed non_neg n k (take n s)
  pub low : (j : ℕ) → j < k → get_or (view s) j 0 < 2 ^ 31

-- the least of them and 0: it is 0 where they are natural, and else not all of the n are
pub record LeastOf (n k : ℕ) (s : List ℤ) (least : ℤ) : Type 0 where
  pub upto : k ≤ n
  pub room : n ≤ length s
  pub so_far : ((least ≡ pos 0) × NaturalUpTo n k s) ⊎ ((lt_z least (pos 0) ≡ true) × (false ≡ all non_neg (take n s)))

-- none has been read
pub least_start : (n : ℕ) (s : List ℤ) → n ≤ length s → LeastOf n 0 s (pos 0)
least_start n s h = record {
  upto = omega arith;
  room = h;
  so_far = inl (refl, record { passed = none_passed (length-take-le n s h); low = below_none _ });
}

module _ {n k : ℕ} {s : List ℤ} (p : NaturalUpTo n k s) (h : k < n) (m : mag (get_or s k (pos 0)) < 2 ^ 31) where
  -- the next number, as it stands among the first n
  next_is : get_or (take n s) k (pos 0) ≡ get_or s k (pos 0)
  next_is = get_or-take n s k (pos 0) h

  -- it is natural
  natural_more : lt_z (held (get_or s k (pos 0))) (pos 0) ≡ false → NaturalUpTo n (k + 1) s
  natural_more e = record {
    passed = one_more p.passed (pos 0) h refl (rw next_is (tested_natural (get_or s k (pos 0)) (rw (back (get_or s k (pos 0)) m) at e)));
    low = below_more _ _ p.low (omega (arith, view_get_or s k, natural_code (get_or s k (pos 0)) m e));
  }

  -- it is negative
  natural_fails : lt_z (held (get_or s k (pos 0))) (pos 0) ≡ true → false ≡ all non_neg (take n s)
  natural_fails e = one_fails p.passed (pos 0) h refl (rw next_is (tested_negative (get_or s k (pos 0)) (rw (back (get_or s k (pos 0)) m) at e)))

module _ {n k : ℕ} {s : List ℤ} {least : ℤ} (p : LeastOf n k s least) where
  module _ {next : ℤ} (h : k < n) (m : mag (get_or s k (pos 0)) < 2 ^ 31) where
    -- the next number is less
    least_falls : lt_z (held (get_or s k (pos 0))) least ≡ true → next ≡ held (get_or s k (pos 0)) → LeastOf n (k + 1) s next
    least_falls e f = record {
      upto = omega arith;
      room = p.room;
      so_far = ⊎_elim (λ o. let g = rw o.0 at e in inr (rw f g, natural_fails o.1 h m g))
          (λ o. inr (rw f (less_negative (held (get_or s k (pos 0))) least e o.0), o.1))
          p.so_far;
    }

    -- it is not
    least_stays : lt_z (held (get_or s k (pos 0))) least ≡ false → next ≡ least → LeastOf n (k + 1) s next
    least_stays e f = record {
      upto = omega arith;
      room = p.room;
      so_far = rw f (⊎_elim (λ o. inl (o.0, natural_more o.1 h m (rw o.0 at e))) (λ o. inr o) p.so_far);
    }

    -- the lesser of the two
    pub least_of_two : next ≡ ord_min int_cmp least (held (get_or s k (pos 0))) → LeastOf n (k + 1) s next
    least_of_two d = go (lt_z (held (get_or s k (pos 0))) least) (lt_z least (held (get_or s k (pos 0)))) refl refl
      where
        go : (less greater : Bool) → lt_z (held (get_or s k (pos 0))) least ≡ less → lt_z least (held (get_or s k (pos 0))) ≡ greater → LeastOf n (k + 1) s next
        go true greater e f = least_falls e (d ∙ rw e)
        go false true e f = least_stays e (d ∙ rw (e, f))
        go false false e f = least_stays e (d ∙ rw (e, f))

  module _ (h : n ≤ k) where
    -- all are natural if the least is
    pub least_tells : le_z (pos 0) least ≡ all non_neg (take n s)
    least_tells =
        ⊎_elim (λ o. least_natural least o.0 ∙ all_passed o.1.passed h)
        (λ o. least_negative least o.0 ∙ o.1)
        p.so_far

    -- and their views are low
    pub all_low : le_z (pos 0) least ≡ true → Low (take n (view s))
    all_low e =
        ⊎_elim (λ o. low_front n (view s) (λ j l. o.1.low j (omega arith)))
        (λ o. absurd (true_not_false e (least_negative least o.0)))
        p.so_far

-- ---- a part of the view

module _ {test : ℕ → Bool} (a n : ℕ) (s : List ℤ) where
  -- none has been read
  pub part_start : a + n ≤ length s → Passed test n 0 (part a n (view s))
  part_start h = none_passed (row_length a n s h)

  module _ {k x : ℕ} (p : Passed test n k (part a n (view s))) (h : k < n) (e : x ≡ get_or (view s) (a + k) 0) where
    -- number k of the part is the one that was read
    tested : test x ≡ test (get_or (part a n (view s)) k 0)
    tested = rw (row_number a n k s h, ← e)

    -- it passes
    pub part_more : test x ≡ true → Passed test n (k + 1) (part a n (view s))
    part_more q = one_more p 0 h tested q

    -- it does not pass
    pub part_fails : test x ≡ false → false ≡ all test (part a n (view s))
    part_fails q = one_fails p 0 h tested q

-- ---- each is small

-- the numbers of a row can be read
pub small_start : (a n : ℕ) (s : List ℤ) → HasRow a n s → Passed small n 0 (part a n (view s))
small_start a n s r = part_start a n s r.room

module _ (a n : ℕ) (s : List ℤ) {k x : ℕ} (p : Passed small n k (part a n (view s))) (h : k < n) (e : x ≡ get_or (view s) (a + k) 0) where
  -- the next number is small
  pub small_more : x ≤ 65535 → Passed small n (k + 1) (part a n (view s))
  small_more l = part_more a n s p h e (le-leb x 65535 l)

  -- the next number is not
  pub small_fails : 65535 < x → false ≡ all small (part a n (view s))
  small_fails l = part_fails a n s p h e (lt-leb x 65535 l)

-- two numbers, without a loop
module _ {a n : ℕ} {s : List ℤ} (r : HasRow a n s) (two : n ≡ 2) {x : ℕ} (e : x ≡ get_or (view s) a 0) where
  -- the first decides, and then the second
  both_small : all small (part a n (view s)) ≡ small x && small (get_or (view s) (a + 1) 0)
  unfolding all
  both_small = rw (pair_row a s two r.room, e, and-true)

  -- the first is not small
  pub first_large : 65535 < x → false ≡ all small (part a n (view s))
  first_large l = sym (both_small ∙ rw (lt-leb x 65535 l))

  -- it is
  pub second_tells : {y : ℕ} → x ≤ 65535 → y ≡ get_or (view s) (a + 1) 0 → small y ≡ all small (part a n (view s))
  second_tells l f = sym (both_small ∙ rw (le-leb x 65535 l, f))

pub ruleset two_small = (pair_first, pair_second, first_large, second_tells)

pub ruleset smalls = (small_start, row_low, small_more, small_fails, all_passed)

-- ---- all are the same

-- each number of a part is the one at its start
alike_part : (a n : ℕ) (s : List ℤ) → alike (part a n (view s)) ≡ all (eqb (get_or (view s) a 0)) (part a n (view s))
unfolding part alike all
alike_part a zero s = refl
alike_part a (suc n) s =
    let e : a + 0 ≡ a = omega arith in alike_test (part a (suc n) (view s)) ∙ rw (row_number a (suc n) 0 s (omega arith), e)

module _ (a n : ℕ) (s : List ℤ) {k : ℕ} (p : Passed (eqb (get_or (view s) a 0)) n k (part a n (view s))) where
  -- the next number is the first one
  pub alike_more : {t : Bool} → k < n → t ≡ eqb (get_or (view s) a 0) (get_or (view s) (a + k) 0) → not t ≡ false →
      Passed (eqb (get_or (view s) a 0)) n (k + 1) (part a n (view s))
  alike_more {t} h e f = part_more a n s p h refl (sym e ∙ not-false t f)

  -- the next number is another
  pub alike_fails : {t : Bool} → k < n → t ≡ eqb (get_or (view s) a 0) (get_or (view s) (a + k) 0) → not t ≡ true → false ≡ alike (part a n (view s))
  alike_fails {t} h e f = part_fails a n s p h refl (sym e ∙ not-true t f) ∙ sym (alike_part a n s)

  -- all are the first one
  pub all_alike : n ≤ k → true ≡ alike (part a n (view s))
  all_alike h = all_passed p h ∙ sym (alike_part a n s)

pub ruleset alikes = (part_start, alike_more, alike_fails, all_alike)
