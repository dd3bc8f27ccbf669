-- A row moved by a start, number by number, and one that is so by value: `moved`. Assumes nothing.
use mathlib.Core.Path.{◌≡◌, refl, sym, ap, ◌∙◌}
use mathlib.Core.List.{List}
use Prim.Native.Nat.{ℕ, ◌+◌, ◌^◌, ◌<◌, ◌≤◌}
use native.Mathlib.Omega.{arith}
use lib.IntN.{ℤ, pos}
use lib.ListN.{length, get_or, set, take, length-set, length-take, get_or-eq_default}
use lib.Seq.{get_or-set_other, get_or-take, ext_get_or}
use Rattle.rules.specs.Limits.{product_limit}
use Rattle.rules.specs.Buffers.{part}
use Rattle.rules.specs.Concatenate.{moved_by}
use Rattle.rules.proofs.Order.{ComparedNumbers, under, even, above, compare_numbers}
use Rattle.rules.proofs.MovedBy.{moved_by_length, moved_by_at, moved_by_take}
use Rattle.cells.specs.View.{view}
use Rattle.cells.proofs.View.{view_length, view_set, stored_number}
use Rattle.tables.specs.Rows.{row_at}
use Rattle.entries.specs.Listing.{MoveAsked, Moved}

-- ---- one number after the other

module _ {start : List ℕ} {row : List ℤ} where
  -- none is a sum yet
  pub moved_none : Moved 0 start row row
  moved_none = record { sums = λ k h. absurd (omega arith); rest = λ k h. refl }

  -- one more is
  pub moved_more : {k : ℕ} {sum : List ℤ} → Moved k start row sum → k < length sum → Moved (k + 1) start row (set sum k (pos (get_or start k 0 + get_or (view row) k 0)))
  moved_more {k} {sum} m inside = record { sums = λ j l. by j l (compare_numbers j k); rest = λ j l. other j (λ d. omega arith) ∙ m.rest j (omega arith) }
    where
      total : ℕ
      total = get_or start k 0 + get_or (view row) k 0

      next : List ℤ
      next = set sum k (pos total)

      other : (j : ℕ) → (j ≡ k → ⊥) → get_or (view next) j 0 ≡ get_or (view sum) j 0
      other j d = rw view_set (get_or-set_other (view sum) k j total 0 d)

      by : (j : ℕ) → j < k + 1 → ComparedNumbers j k → get_or (view next) j 0 ≡ get_or start j 0 + get_or (view row) j 0
      by j l (under o) = other j (λ d. omega arith) ∙ m.sums j o
      by j l (even d) = rw d (stored_number k total sum inside)
      by j l (above o) = absurd (omega arith)

  -- in the end the row is moved by the first n numbers of the start
  pub view_moved : {n : ℕ} {sum : List ℤ} → Moved n start row sum → length sum ≡ length row → view sum ≡ moved_by (take n start) (view row)
  view_moved {n} {sum} m e =
      ext_get_or 0 (view sum) (moved_by (take n start) (view row)) (rw (view_length, moved_by_length, view_length) e)
      (λ k o. by k (compare_numbers k n) ∙ sym (moved_by_at (take n start) (view row) k (omega (arith, view_length sum, view_length row))))
    where
      past : (k : ℕ) → n ≤ k → get_or (view sum) k 0 ≡ get_or (take n start) k 0 + get_or (view row) k 0
      past k i =
          let z : get_or (take n start) k 0 ≡ 0 = get_or-eq_default (take n start) 0 {n = k} (simp length-take (omega arith)) in
          omega (arith, m.rest k i)

      by : (k : ℕ) → ComparedNumbers k n → get_or (view sum) k 0 ≡ get_or (take n start) k 0 + get_or (view row) k 0
      by k (under i) = m.sums k i ∙ ap (λ (x : ℕ). x + get_or (view row) k 0) (sym (get_or-take n start k 0 i))
      by k (even i) = past k (omega arith)
      by k (above i) = past k (omega arith)

  -- and so are its first w numbers
  pub row_moved : {n : ℕ} {sum : List ℤ} → Moved n start row sum → length sum ≡ length row → (w : ℕ) → row_at 0 w sum ≡ moved_by (take n start) (row_at 0 w row)
  unfolding part
  row_moved {n} m e w = ap (take w) (view_moved m e) ∙ moved_by_take (take n start) (view row) w

-- ---- a row by value: `moved`

-- the first k of n numbers are sums
pub record Moving (row : List ℤ) (start : List ℕ) (n k : ℕ) (sum : List ℤ) : Type 0 where
  pub asked : MoveAsked row start n
  pub upto : k ≤ n
  pub long : length sum ≡ 5
  pub size : length start ≡ 4
  pub so_far : Moved k start row sum

module _ {row : List ℤ} {start : List ℕ} {n : ℕ} where
  pub move_start : MoveAsked row start n → length row ≡ 5 → length start ≡ 4 → Moving row start n 0 row
  move_start a l z = record { asked = a; upto = omega arith; long = l; size = z; so_far = moved_none }

  module _ {k : ℕ} {sum : List ℤ} (g : Moving row start n k sum) where
    pub move_done : n ≤ k → Moved n start row sum
    move_done h = let u = g.upto in let e : k ≡ n = omega arith in rw e at g.so_far

    module _ (h : k < n) {y : ℕ} (f : y ≡ get_or (view sum) k 0) where
      -- the number as it was
      was : y ≡ get_or (view row) k 0
      was = f ∙ g.so_far.rest k (omega arith)

      pub sum_small : get_or start k 0 + y < 2 ^ 31
      sum_small = let b : y ≤ product_limit = rw was (g.asked.row_low k h) in omega (arith, g.asked.start_low k)

      pub move_turn : {next : List ℤ} → next ≡ set sum k (pos (get_or start k 0 + y)) → Moving row start n (k + 1) next
      move_turn is = record {
        asked = g.asked;
        upto = omega arith;
        long = rw (is, length-set) g.long;
        size = g.size;
        so_far = rw (is, was) (moved_more g.so_far (omega (arith, g.long, g.asked.narrow)));
      }

pub ruleset moving = (move_start, sum_small, move_turn, move_done)
