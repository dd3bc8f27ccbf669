-- Rows whose numbers are picked from those of other rows.
use Rattle.std.specs.Prelude.{List, map, ℕ, ◌+◌, ◌^◌, ◌<◌, ◌≤◌, ℤ, length, get_or, set}
use Rattle.rules.specs.declared.Entries.{Entries}
use Rattle.rules.specs.Limits.{entry_limit}
use Rattle.rules.specs.Lists.{below}
use Rattle.rules.specs.RowsInOrder.{sorted}
use Rattle.rules.specs.Layout.{Layout}
use Rattle.tables.specs.Rows.{HasRows}
use Rattle.tables.specs.Tables.{room_end, Only}
use Rattle.parts.specs.Parts.{part_size, states_from, inputs_from}
use Rattle.moving.specs.Sections.{TableIs}

-- each number of the new row is the one at a place of the old row, or a missing one where the place lies behind it
unfoldable pub picked : ℕ → List ℕ → List ℕ → List ℕ
picked missing places row = map (λ j. get_or row j missing) places

-- the first components of an index, so many of them, and then the number that stands behind `rank` components
unfoldable pub shorter_places : ℕ → ℕ → List ℕ
shorter_places kept rank = set (below 5) kept rank

-- a row of `width` numbers, of which w are picked, with a missing one that a slice can hold
pub record RowAsked (at width missing w : ℕ) (s : List ℤ) : Type 0 where
  pub room : at + width ≤ length s
  pub small : missing < 2 ^ 31
  pub narrow : w ≤ 5

-- rows of `width` numbers each, and room for a table of rows of w numbers at a place of a part
pub record PickAsked (rows : Entries) (width w : ℕ) (s : List ℤ) (at : ℕ) (t : List ℤ) : Type 0 where
  pub has : HasRows rows.first width rows.count s
  pub few : rows.count ≤ entry_limit
  pub narrow : w ≤ 5
  pub room : room_end at w ≤ length t

-- the dependencies of a layout, picked, in order and once each, are those of a part
pub record DepsPicked (places : List ℕ) (w : ℕ) (l : Layout) (s t : List ℤ) : Type 0 where
  pub states : TableIs states_from w (sorted (map (picked 0 places) l.states)) t
  pub inputs : TableIs inputs_from w (sorted (map (picked 0 places) l.inputs)) t
  pub only : Only states_from part_size s t
