-- A layout that is made in a part, section by section, in whatever order: its head, and its tables.
use Rattle.std.specs.Prelude.{◌≡◌, List, ℕ, ◌≤◌, ℤ, length}
use Rattle.rules.specs.Limits.{rank_limit, entry_limit}
use Rattle.rules.specs.Buffers.{part}
use Rattle.cells.specs.View.{view}
use Rattle.tables.specs.Tables.{table_at, room_end, Only}
use Rattle.parts.specs.Parts.{part_size, extents_from, rows_from, kind_at, dense_at, rank_at}

-- ---- what stands in a part

-- a kind, a D and a shape are the head
pub record HeadIs (kind dense : ℕ) (shape : List ℕ) (t : List ℤ) : Type 0 where
  pub kind_is : kind_at 0 t ≡ kind
  pub dense_is : dense_at 0 t ≡ dense
  pub rank_is : rank_at 0 t ≡ length shape
  pub shape_is : part extents_from (length shape) (view t) ≡ shape

-- rows, not too many, are the table at a place
pub record TableIs (at w : ℕ) (rows : List (List ℕ)) (t : List ℤ) : Type 0 where
  pub rows_are : table_at at w t ≡ rows
  pub few : length rows ≤ entry_limit

-- ---- what is written

-- a kind, a D and extents as a sound layout has them, and a part
pub record HeadAsked (kind dense : ℕ) (extents t : List ℤ) : Type 0 where
  pub kind_most : kind ≤ 2
  pub dense_most : dense ≤ rank_limit
  pub rank_most : length extents ≤ rank_limit
  pub room : part_size ≤ length t

-- the head, and nothing behind it
pub record HeadMade (kind dense : ℕ) (shape : List ℕ) (s t : List ℤ) : Type 0 where
  pub head : HeadIs kind dense shape t
  pub only : Only 0 rows_from s t

-- a table, and nothing outside its room
pub record TableMade (at w : ℕ) (rows : List (List ℕ)) (s t : List ℤ) : Type 0 where
  pub table : TableIs at w rows t
  pub only : Only at (room_end at w) s t
