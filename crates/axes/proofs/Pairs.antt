-- A row of two numbers, which is read without a loop. Assumes nothing.
use mathlib.Core.Path.{◌≡◌}
use mathlib.Core.List.{List, [], ◌∷◌}
use Prim.Native.Nat.{ℕ, suc, ◌+◌, ◌^◌, ◌<◌, ◌≤◌}
use native.Mathlib.Numerals.{add-one}
use native.Mathlib.Omega.{arith}
use lib.IntN.{ℤ}
use lib.ListN.{length, get_or}
use lib.Seq.{drop-cons}
use Rattle.rules.specs.Buffers.{part}
use Rattle.cells.specs.View.{view}
use Rattle.cells.proofs.View.{view_length}
use Rattle.tables.specs.Rows.{row_at, HasRow}
use Rattle.tables.proofs.Rows.{row_low}

module _ {w : ℕ} (a : ℕ) (s : List ℤ) (two : w ≡ 2) where
  -- it is these two
  pub pair_row : a + w ≤ length s → row_at a w s ≡ get_or (view s) a 0 ∷ get_or (view s) (a + 1) 0 ∷ []
  unfolding part
  pair_row h =
      let long = view_length s in
      let first : a < length (view s) = omega arith in
      let second : suc a < length (view s) = omega arith in
      rw (two, add-one, drop-cons (view s) a 0 first, drop-cons (view s) (suc a) 0 second)

  module _ (r : HasRow a w s) where
    -- neither is negative
    pub pair_first : get_or (view s) a 0 < 2 ^ 31
    pair_first = let e : a + 0 ≡ a = omega arith in rw e at (row_low a w 0 s r (omega arith))

    pub pair_second : get_or (view s) (a + 1) 0 < 2 ^ 31
    pair_second = row_low a w 1 s r (omega arith)
