-- A layout in a part of the working buffer, in its open form: its sections stand at fixed places, so that tables grow where they are.
--     0 kind, 1 D, 2 R, 3..6 extents, 7 count of rows, 8..519 rows, 520 count of states, 521..1160 states, 1161 count of inputs, 1162..1801 inputs
use Rattle.std.specs.Prelude.{◌⊎◌, List, ℕ, ◌+◌, ◌-◌, ◌≤◌, ℤ, length, get_or}
use Rattle.rules.specs.Limits.{result_size}
use Rattle.rules.specs.Buffers.{part}
use Rattle.rules.specs.Layout.{Layout}
use Rattle.rules.specs.Soundness.{Sound, DepsLow}
use Rattle.cells.specs.View.{view}
use Rattle.tables.specs.Tables.{table_at}

-- a part is as long as the longest record
abbrev pub part_size : ℕ
part_size = result_size

-- where the sections stand in a part: the extents, and the counts of rows, states and inputs
abbrev pub extents_from : ℕ
extents_from = 3

abbrev pub rows_from : ℕ
rows_from = 7

abbrev pub states_from : ℕ
states_from = 520

abbrev pub inputs_from : ℕ
inputs_from = 1161

-- a window of five parts: two layouts, the one that is made of them, and spare room
abbrev pub window_size : ℕ
window_size = 9010

abbrev pub left : ℕ
left = 0

abbrev pub right : ℕ
right = 1802

abbrev pub target : ℕ
target = 3604

abbrev pub spare : ℕ
spare = 5406

abbrev pub other_spare : ℕ
other_spare = 7208

abbrev pub kind_at : ℕ → List ℤ → ℕ
kind_at at s = get_or (view s) at 0

abbrev pub dense_at : ℕ → List ℤ → ℕ
dense_at at s = get_or (view s) (at + 1) 0

abbrev pub rank_at : ℕ → List ℤ → ℕ
rank_at at s = get_or (view s) (at + 2) 0

-- rows have R - D numbers, dependencies R + 1
abbrev pub width_at : ℕ → List ℤ → ℕ
width_at at s = rank_at at s - dense_at at s

-- the layout that stands in the part at a place
unfoldable pub layout_at : ℕ → List ℤ → Layout
layout_at at s = record {
  kind = kind_at at s;
  dense = dense_at at s;
  shape = part (at + extents_from) (rank_at at s) (view s);
  rows = table_at (at + rows_from) (width_at at s) s;
  states = table_at (at + states_from) (rank_at at s + 1) s;
  inputs = table_at (at + inputs_from) (rank_at at s + 1) s;
}

-- the part lies in the slice, its layout is sound, and the numbers of its dependencies are natural 32-bit numbers
pub record Holds (at : ℕ) (s : List ℤ) : Type 0 where
  pub inside : at + part_size ≤ length s
  pub sound : Sound (layout_at at s)
  pub low : DepsLow (layout_at at s)

-- a window of five parts has a layout in each of its first two
pub record Window (s : List ℤ) : Type 0 where
  pub first : Holds left s
  pub second : Holds right s
  pub room : window_size ≤ length s

-- what stands from a up to e is apart from the part at a place
abbrev pub Apart : ℕ → ℕ → ℕ → Type 0
Apart at a e = (at + part_size ≤ a) ⊎ (e ≤ at)
