-- The rows and the dependencies that a layout lists with a smaller D, put in order into a table of the slice.
use Rattle.std.specs.Prelude.{◌≡◌, Bool, false, not, ◌&&◌, List, ◌++◌, map, ◌⊎◌, ℕ, ◌+◌, ◌-◌, ◌≤◌, ltb, ℤ, length, take, drop, replicate}
use Rattle.rules.specs.Limits.{product_limit}
use Rattle.rules.specs.Lists.{if, gather, below, product}
use Rattle.rules.specs.Layout.{Layout, is_diagonal, nonzero_product}
use Rattle.rules.specs.Removal.{positions, removed_deps, lists_row}
use Rattle.rules.specs.Pairs.{bars_expansion}
use Rattle.tables.specs.Rows.{row_at, HasRow}
use Rattle.tables.specs.Tables.{room_end, Fits, Ready}
use Rattle.parts.specs.Parts.{kind_at, dense_at, rank_at, layout_at, Holds, Apart}

-- ---- the last axes of a shape

-- a shape at a place, as small as a sound layout's, of which the axes from w on are the last
pub record Axes (at w rank : ℕ) (s : List ℤ) : Type 0 where
  pub room : at + rank ≤ length s
  pub upto : w ≤ rank
  pub narrow : rank ≤ 4
  pub small : nonzero_product (row_at at rank s) ≤ product_limit

-- the extents of the last axes
abbrev pub last_axes : ℕ → ℕ → ℕ → List ℤ → List ℕ
last_axes at w rank s = drop w (row_at at rank s)

-- their indices
abbrev pub last_positions : ℕ → ℕ → ℕ → List ℤ → List (List ℕ)
last_positions at w rank s = positions (last_axes at w rank s)

-- a row with each of these ends in place of its numbers from w up to the rank
abbrev pub with_tails : ℕ → ℕ → List ℕ → List (List ℕ) → List (List ℕ)
with_tails w rank row ends = map (λ t. take w row ++ (t ++ drop rank row)) ends

-- each of the rows so
abbrev pub all_tails : ℕ → ℕ → List (List ℕ) → List (List ℕ) → List (List ℕ)
all_tails w rank rows ends = gather (λ r. with_tails w rank r ends) rows

-- ---- rows that are put into a table

-- a row of which so many numbers are read, and a width that it has with an end in it: as far as the rank, and what is read behind that
pub record Widths (read w rank width : ℕ) : Type 0 where
  pub front : w ≤ read
  pub read_most : read ≤ 5
  pub width_is : width ≡ rank + (read - rank)

-- a row, the last axes, of which there are `size` indices, and a table that can take rows
pub record RowAsked (from read extents w rank size to width : ℕ) (s : List ℤ) : Type 0 where
  pub row : HasRow from read s
  pub axes : Axes extents w rank s
  pub widths : Widths read w rank width
  pub size_is : size ≡ product (last_axes extents w rank s)
  pub target : Ready to width s
  pub row_apart : (from + read ≤ to) ⊎ (room_end to width ≤ from)
  pub axes_apart : (extents + rank ≤ to) ⊎ (room_end to width ≤ extents)

-- a table of such rows
pub record RowsAsked (from read extents w rank to width : ℕ) (s : List ℤ) : Type 0 where
  pub rows : Fits from read s
  pub axes : Axes extents w rank s
  pub widths : Widths read w rank width
  pub target : Ready to width s
  pub rows_apart : (room_end from read ≤ to) ⊎ (room_end to width ≤ from)
  pub axes_apart : (extents + rank ≤ to) ⊎ (room_end to width ≤ extents)

-- a number, and a table that can take rows of w such numbers
pub record DiagonalAsked (to w extent : ℕ) (s : List ℤ) : Type 0 where
  pub narrow : w ≤ 4
  pub small : extent ≤ product_limit
  pub target : Ready to w s

-- the rows (i,..,i) for i below a number
abbrev pub diagonal_of : ℕ → ℕ → List (List ℕ)
diagonal_of w extent = map (λ i. replicate w i) (below extent)

-- ---- a table that is made of rows

-- a layout in a part, a D that it can be lowered to, and room for a table apart from it
pub record LowerAsked (at to d : ℕ) (s : List ℤ) : Type 0 where
  pub holds : Holds at s
  pub room : to + 513 ≤ length s
  pub apart : Apart at to (to + 513)
  pub lower : d ≤ dense_at at s
  pub is_not_dense : kind_at at s ≡ 0 → ⊥
  pub expands : bars_expansion (layout_at at s) ≡ false
  pub lists_none : lists_row (layout_at at s) d ≡ false

-- ---- dependencies

-- a layout loses dense axes where its D is lowered: a diagonal keeps them
abbrev pub removes_axes : Layout → ℕ → Bool
removes_axes l new = not (is_diagonal l) && ltb new l.dense

-- dependencies of a layout with its D lowered
abbrev pub lowered_deps : Layout → ℕ → List (List ℕ) → List (List ℕ)
lowered_deps l new deps = if (removes_axes l new) (removed_deps l new deps) deps

-- a layout in a part, dependencies of it in a table, and room for another table apart from both
pub record DepsAsked (at d from to : ℕ) (s : List ℤ) : Type 0 where
  pub holds : Holds at s
  pub deps : Ready from (rank_at at s + 1) s
  pub room : to + 641 ≤ length s
  pub apart : Apart at to (to + 641)
  pub deps_apart : (from + 641 ≤ to) ⊎ (to + 641 ≤ from)
