-- A test that every element of a list has to pass, or every row of a slice, put to one after the other. Assumes nothing.
use mathlib.Core.Path.{◌≡◌, refl, sym, ◌∙◌}
use mathlib.Core.Bool.{Bool, true, false, not, ◌&&◌}
use mathlib.Core.List.{List, []}
use Prim.Native.Nat.{ℕ, ◌+◌, ◌*◌, ◌<◌, ◌≤◌}
use native.Mathlib.Numerals.{add-one}
use native.Mathlib.Omega.{arith}
use borrow.Author.Tests.{not-true, not-false}
use lib.IntN.{ℤ}
use lib.ListN.{length, get_or, drop, drop_of_length-le}
use lib.Seq.{drop-cons}
use Rattle.rules.specs.Lists.{all}
use Rattle.tables.specs.Rows.{row_at, rows_at}
use Rattle.tables.proofs.Rows.{length_rows, row_of, row_ends}

-- the first k of n elements have passed
pub record Passed {A : Type 0} (test : A → Bool) (n k : ℕ) (l : List A) : Type 0 where
  pub upto : k ≤ n
  pub size : length l ≡ n
  pub eq : all test l ≡ all test (drop k l)

module _ {A : Type 0} {test : A → Bool} {n : ℕ} {l : List A} where
  -- none has yet
  pub none_passed : length l ≡ n → Passed test n 0 l
  none_passed e = record { upto = omega arith; size = e; eq = refl }

  module _ {k : ℕ} (p : Passed test n k l) where
    module _ (d : A) {b : Bool} (h : k < n) (e : b ≡ test (get_or l k d)) where
      -- the next element decides, and those behind it
      next : all test l ≡ b && all test (drop (k + 1) l)
      unfolding all
      next = let inside : k < length l = omega arith in p.eq ∙ rw (add-one, drop-cons l k d, e)

      -- it passes
      pub one_more : b ≡ true → Passed test n (k + 1) l
      one_more f = record { upto = omega arith; size = p.size; eq = next ∙ rw f }

      -- it does not pass
      pub one_fails : b ≡ false → false ≡ all test l
      one_fails f = sym (next ∙ rw f)

    -- all have passed
    pub all_passed : n ≤ k → true ≡ all test l
    unfolding all
    all_passed h = sym (p.eq ∙ rw (drop_of_length-le l {i = k} (omega arith)))

pub ruleset passing = (none_passed, one_more, one_fails, all_passed, not-true, not-false)

-- ---- rows of a slice

-- a row ends where the rows do, or before
pub row_room : (a w : ℕ) {i n size : ℕ} → i < n → a + n * w ≤ size → a + i * w + w ≤ size
row_room a w h l = let e = row_ends w h in omega arith

module _ {test : List ℕ → Bool} (a w n : ℕ) (s : List ℤ) where
  -- none has been put to the test
  pub rows_start : Passed test n 0 (rows_at a w n s)
  rows_start = none_passed (length_rows a w n s)

  module _ {i : ℕ} {t : Bool} (p : Passed test n i (rows_at a w n s)) (h : i < n) (e : t ≡ test (row_at (a + i * w) w s)) where
    -- row i stands i rows on
    tested : t ≡ test (get_or (rows_at a w n s) i [])
    tested = rw (row_of a w n s i h) e

    -- it passes
    pub rows_more : not t ≡ false → Passed test n (i + 1) (rows_at a w n s)
    rows_more q = one_more p [] h tested (not-false t q)

    -- it does not pass
    pub rows_fail : not t ≡ true → false ≡ all test (rows_at a w n s)
    rows_fail q = one_fails p [] h tested (not-true t q)

pub ruleset rows_passing = (rows_start, rows_more, rows_fail, all_passed)
