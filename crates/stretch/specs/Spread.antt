-- The old extents, which stand in a record, and the new ones, at a place of a slice.
use Rattle.std.specs.Prelude.{◌≡◌, true, List, [], ◌∷◌, map, ℕ, ◌+◌, ◌≤◌, ℤ, length, get_or}
use Rattle.rules.specs.Lists.{if, below}
use Rattle.rules.specs.Layout.{within_product}
use Rattle.rules.specs.Stretching.{is_stretched}
use Rattle.cells.specs.View.{view}
use Rattle.tables.specs.Rows.{row_at}

-- both shapes lie in their slices and have at most 4 extents; the new one is within the limit
pub record Shapes (old : ℕ) (from : List ℤ) (at rank : ℕ) (shape : List ℤ) : Type 0 where
  pub old_in : 3 + old ≤ length from
  pub old_few : old ≤ 4
  pub new_in : at + rank ≤ length shape
  pub new_few : rank ≤ 4
  pub within : within_product (row_at at rank shape) ≡ true

-- the extents of a record
abbrev pub extents_in : ℕ → List ℤ → List ℕ
extents_in old from = row_at 3 old from

-- how many values an axis takes: all below its new extent where it is stretched, one otherwise
abbrev pub values_on : List ℕ → List ℕ → ℕ → ℕ
values_on old new axis = if (is_stretched old new axis) (get_or new axis 0) 1

-- how many each of the first w axes takes
abbrev pub spread_over : List ℕ → List ℕ → ℕ → List ℕ
spread_over old new w = map (values_on old new) (below w)

-- so many numbers stand in a row of five, and 1 behind them
pub record SpreadIs (old new : List ℕ) (w : ℕ) (extents : List ℤ) : Type 0 where
  pub values : row_at 0 w extents ≡ spread_over old new w
  pub behind : get_or (view extents) w 0 ≡ 1

-- number by number the sum of two rows
unfoldable pub plus : List ℕ → List ℕ → List ℕ
plus [] q = []
plus (x ∷ p) [] = []
plus (x ∷ p) (y ∷ q) = (x + y) ∷ plus p q
