-- `row_below` and `rows_below`: components against extents, one after the other. Assumes nothing.
use mathlib.Core.Path.{◌≡◌, refl, sym, ◌∙◌}
use mathlib.Core.Bool.{Bool, true, false, not, ◌&&◌, and-true}
use mathlib.Core.List.{List}
use Prim.Native.Nat.{ℕ, ◌+◌, ◌^◌, ◌<◌, ◌≤◌}
use native.Mathlib.Numerals.{add-one}
use native.Mathlib.Omega.{arith}
use borrow.Author.Tests.{not-true, not-false}
use lib.Dec.{ltb}
use lib.IntN.{ℤ}
use lib.ListN.{length, get_or, drop, drop_of_length-le}
use lib.Seq.{drop-cons}
use Rattle.rules.specs.Lists.{all_below}
use Rattle.cells.specs.View.{view}
use Rattle.tables.specs.Rows.{row_at, HasRow}
use Rattle.tables.proofs.Rows.{row_length, row_number, row_low}
use Rattle.axes.proofs.Pairs.{pair_row, pair_first, pair_second}

-- the first k of w components at a of s are below their extents at a place of t
pub record Under (a at w k : ℕ) (s t : List ℤ) : Type 0 where
  pub upto : k ≤ w
  pub row : HasRow a w s
  pub extents : at + w ≤ length t
  pub eq : all_below (row_at a w s) (row_at at w t) ≡ all_below (drop k (row_at a w s)) (drop k (row_at at w t))

-- of two lists, the numbers at k decide, and those behind them
next_below : (p q : List ℕ) (k : ℕ) → k < length p → k < length q →
    all_below (drop k p) (drop k q) ≡ ltb (get_or p k 0) (get_or q k 0) && all_below (drop (k + 1) p) (drop (k + 1) q)
unfolding all_below
next_below p q k h l = rw (add-one, drop-cons p k 0, drop-cons q k 0)

-- none has been read
pub start : (a at w : ℕ) (s t : List ℤ) → HasRow a w s → at + w ≤ length t → Under a at w 0 s t
start a at w s t h l = record { upto = omega arith; row = h; extents = l; eq = refl }

module _ {a at w k : ℕ} {s t : List ℤ} (u : Under a at w k s t) where
  -- component k is not negative
  pub low_component : k < w → get_or (view s) (a + k) 0 < 2 ^ 31
  low_component h = row_low a w k s u.row h

  module _ {r : Bool} (h : k < w) (e : r ≡ ltb (get_or (view s) (a + k) 0) (get_or (view t) (at + k) 0)) where
    -- it decides, and those behind it
    next : all_below (row_at a w s) (row_at at w t) ≡ r && all_below (drop (k + 1) (row_at a w s)) (drop (k + 1) (row_at at w t))
    next =
        let p = row_length a w s u.row.room in
        let q = row_length at w t u.extents in
        u.eq ∙ next_below (row_at a w s) (row_at at w t) k (omega arith) (omega arith) ∙ rw (row_number a w k s h, row_number at w k t h, ← e)

    -- it is below its extent
    pub turn : not r ≡ false → Under a at w (k + 1) s t
    turn f = record { upto = omega arith; row = u.row; extents = u.extents; eq = rw (not-false r f) at next }

    -- it is not
    pub stop : not r ≡ true → false ≡ all_below (row_at a w s) (row_at at w t)
    stop f = sym (rw (not-true r f) at next)

  -- all are below their extents
  pub done : w ≤ k → true ≡ all_below (row_at a w s) (row_at at w t)
  unfolding all_below
  done h = let p = row_length a w s u.row.room in sym (u.eq ∙ rw (drop_of_length-le (row_at a w s) {i = k} (omega arith)))

-- ---- two components

module _ {a w : ℕ} {s : List ℤ} (at : ℕ) (t : List ℤ) (r : HasRow a w s) (h : at + w ≤ length t) (two : w ≡ 2) {u : Bool} (e : u ≡ ltb (get_or (view s) a 0) (get_or (view t) at 0)) where
  -- the first decides, and then the second
  both : all_below (row_at a w s) (row_at at w t) ≡ u && ltb (get_or (view s) (a + 1) 0) (get_or (view t) (at + 1) 0)
  unfolding all_below
  both = rw (pair_row a s two r.room, pair_row at t two h, e, and-true)

  -- the first is below its extent
  pub by_second : {v : Bool} → u ≡ true → v ≡ ltb (get_or (view s) (a + 1) 0) (get_or (view t) (at + 1) 0) → v ≡ all_below (row_at a w s) (row_at at w t)
  by_second f g = g ∙ sym (both ∙ rw f)

  -- it is not
  pub first_above : u ≡ false → false ≡ all_below (row_at a w s) (row_at at w t)
  first_above f = sym (both ∙ rw f)

pub ruleset pairs = (pair_first, pair_second, by_second, first_above)

pub ruleset laws = (start, low_component, turn, stop, done)
