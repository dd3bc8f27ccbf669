-- `differ_in_window` and `differ_by_numbers`: numbers that are marked where they come first, window after window. Assumes nothing.
use mathlib.Core.Path.{◌≡◌}
use mathlib.Core.Bool.{Bool, true, false, not}
use mathlib.Core.List.{List}
use Prim.Native.Nat.{ℕ, ◌+◌, ◌-◌, ◌<◌, ◌≤◌}
use native.Mathlib.Omega.{arith}
use borrow.Author.Count.{below_none, below_more}
use borrow.Author.Tests.{not-false}
use lib.ListN.{length, get_or, set, replicate, length-replicate, get_or-replicate, length-set}
use lib.Seq.{get_or-set_same, get_or-set_other}
use Rattle.rules.proofs.Order.{ComparedNumbers, under, even, above, compare_numbers}
use Rattle.axes.specs.Numbers.{Seen, Once, DifferIn}

-- ---- one number more

-- where it is another, what was seen of v stays so
seen_later : (v i : ℕ) (l : List ℕ) (t : Bool) → Seen v i l t → (get_or l i 0 ≡ v → ⊥) → Seen v (i + 1) l t
seen_later v i l true p n = record { at = p.at; before = omega (arith, p.before); is = p.is }
seen_later v i l false f n = below_more _ i f n

-- ---- the marks

-- of the first i of n numbers, the marks say which of the 4,096 from a on were seen, and none of these was seen twice
pub record Marked (a n i : ℕ) (l : List ℕ) (marks : List Bool) : Type 0 where
  pub upto : i ≤ n
  pub long : length l ≡ n
  pub room : length marks ≡ 4096
  pub marked : (m : ℕ) → m < 4096 → Seen (a + m) i l (get_or marks m false)
  pub once : Once a (a + 4096) i l

-- none is marked
pub mark_start : {a n : ℕ} {l : List ℕ} → length l ≡ n → Marked a n 0 l (replicate 4096 false)
mark_start {a} {n} {l} e = record {
  upto = omega arith;
  long = e;
  room = length-replicate 4096 false;
  marked = λ m h. rw (get_or-replicate 4096 m false false h) (below_none _);
  once = below_none _;
}

module _ {a n i : ℕ} {l : List ℕ} {marks : List Bool} (p : Marked a n i l marks) where
  module _ {x : ℕ} (h : i < n) (e : x ≡ get_or l i 0) where
    -- a number outside the window is passed over
    passed_over : (a ≤ x → x < a + 4096 → ⊥) → Marked a n (i + 1) l marks
    passed_over out = record {
      upto = omega arith;
      long = p.long;
      room = p.room;
      marked = λ m k. seen_later (a + m) i l (get_or marks m false) (p.marked m k) (λ z. out (omega arith) (omega arith));
      once = below_more _ i p.once (λ low high. absurd (out (omega arith) (omega arith)));
    }

    pub mark_below : x < a → Marked a n (i + 1) l marks
    mark_below k = passed_over (λ low high. omega arith)

    module _ (low : a ≤ x) where
      pub mark_above : 4096 ≤ x - a → Marked a n (i + 1) l marks
      mark_above k = passed_over (λ least high. omega arith)

      module _ (k : x - a < 4096) where
        -- the mark of the number
        its_mark : {t : Bool} → get_or marks (x - a) false ≡ t → Seen x i l t
        its_mark f = let back : a + (x - a) ≡ x = omega arith in rw (back, f) at (p.marked (x - a) k)

        -- it is marked: it was seen before
        pub mark_twice : get_or marks (x - a) false ≡ true → DifferIn a (a + 4096) l false
        mark_twice f = record {
          second = i;
          within = omega (arith, p.long);
          least = omega arith;
          under = omega arith;
          first = rw e at (its_mark f);
        }

        -- it is not, and is marked now
        pub mark_once : get_or marks (x - a) false ≡ false → Marked a n (i + 1) l (set marks (x - a) true)
        mark_once f = record {
          upto = omega arith;
          long = p.long;
          room = rw length-set p.room;
          marked = λ m j. again m j (compare_numbers m (x - a));
          once = below_more _ i p.once (λ least high. rw e at (its_mark f));
        }
          where
            other : (m : ℕ) → m < 4096 → (m ≡ x - a → ⊥) → Seen (a + m) (i + 1) l (get_or (set marks (x - a) true) m false)
            other m j d =
                rw (get_or-set_other marks (x - a) m true false d)
                (seen_later (a + m) i l (get_or marks m false) (p.marked m j) (λ z. d (omega arith)))

            again : (m : ℕ) → m < 4096 → ComparedNumbers m (x - a) → Seen (a + m) (i + 1) l (get_or (set marks (x - a) true) m false)
            again m j (under s) = other m j (λ z. omega arith)
            again m j (even s) =
                rw (s, get_or-set_same marks (x - a) true false (omega (arith, p.room)))
                (record { at = i; before = omega arith; is = omega arith })
            again m j (above s) = other m j (λ z. omega arith)

  -- all numbers were looked at
  pub mark_done : n ≤ i → DifferIn a (a + 4096) l true
  mark_done h j k = p.once j (omega (arith, p.long))

pub ruleset marks = (mark_start, mark_below, mark_above, mark_twice, mark_once, mark_done)

-- ---- window after window

-- no number below a stands at two places
pub record Apart (a : ℕ) (l : List ℕ) : Type 0 where
  pub once : Once 0 a (length l) l

-- before the first window
pub apart_start : {l : List ℕ} → Apart 0 l
apart_start = record { once = λ j h low high. absurd (omega arith) }

-- one window more
pub apart_turn : {a : ℕ} {l : List ℕ} (t : Bool) → Apart a l → DifferIn a (a + 4096) l t → not t ≡ false → Apart (a + 4096) l
apart_turn {a} {l} t p d f = record { once = λ j h low high. by j h high (compare_numbers (get_or l j 0) a) }
  where
    window : Once a (a + 4096) (length l) l
    window = rw (not-false t f) at d

    by : (j : ℕ) → j < length l → get_or l j 0 < a + 4096 → ComparedNumbers (get_or l j 0) a → Seen (get_or l j 0) j l false
    by j h high (under s) = p.once j h (omega arith) s
    by j h high (even s) = window j h (omega arith) high
    by j h high (above s) = window j h (omega arith) high
