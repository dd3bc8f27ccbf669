-- What is put into a table of the part.
use Rattle.std.specs.Prelude.{◌≡◌, true, ℕ, ◌+◌, ◌*◌, ◌^◌, ◌≤◌, ◌<◌, ℤ, length, get_or}
use mathlib.Core.List.{List, [], ◌∷◌, Memᴰ}
use Rattle.rules.specs.declared.Mode.{Mode}
use Rattle.rules.specs.Limits.{entry_limit, product_limit}
use Rattle.rules.specs.Lists.{if, gather, below, product, all_below}
use Rattle.rules.specs.RowsInOrder.{Each}
use Rattle.rules.specs.Positions.{ravel_index, unravel}
use Rattle.rules.specs.Stretching.{is_stretched, stretched_axes, every_value, fitted_yields}
use Rattle.tables.specs.Rows.{row_at, rows_at, HasRow, HasRows}
use Rattle.tables.specs.Tables.{room_end, Ready}
use Rattle.axes.specs.Extents.{Extents}
use Rattle.parts.specs.Parts.{rows_from}
use Rattle.stretch.specs.Spread.{Shapes, extents_in, plus}

-- what f gives for 0, 1, .., n - 1, one after the other
abbrev pub in_turn : (ℕ → List (List ℕ)) → ℕ → List (List ℕ)
in_turn f n = gather f (below n)

-- ---- dependencies

-- an entry, one of its axes with an extent, and a table that can take entries as long
pub record ValuesAsked (entry : List ℤ) (axis extent to w : ℕ) (s : List ℤ) : Type 0 where
  pub row : HasRow 0 w entry
  pub narrow : w ≤ 5
  pub axis_in : axis < w
  pub extent_most : extent ≤ product_limit
  pub target : Ready to w s

-- an entry for the new rank, both shapes, and a table that can take such entries
pub record EntryAsked (entry : List ℤ) (old : ℕ) (from : List ℤ) (at rank : ℕ) (shape : List ℤ) (to : ℕ) (s : List ℤ) : Type 0 where
  pub row : HasRow 0 (rank + 1) entry
  pub shapes : Shapes old from at rank shape
  pub target : Ready to (rank + 1) s

-- what an entry yields on one axis: every value there if it is stretched
abbrev pub yield_on : List ℕ → List ℕ → List ℕ → ℕ → List (List ℕ)
yield_on old new d axis = if (is_stretched old new axis) (every_value new d axis) []

-- r is d with 0 on each stretched axis
pub record Cleared (old new d r : List ℕ) : Type 0 where
  pub size : length r ≡ length d
  pub zero : (k : ℕ) → Memᴰ k (stretched_axes old new) → get_or r k 0 ≡ 0
  pub kept : (k : ℕ) → (Memᴰ k (stretched_axes old new) → ⊥) → get_or r k 0 ≡ get_or d k 0

-- some dependencies of a record, both shapes, and room for a table
pub record DepsAsked (first count old : ℕ) (from : List ℤ) (at rank : ℕ) (shape : List ℤ) (to : ℕ) (s : List ℤ) : Type 0 where
  pub rows : HasRows first (old + 1) count from
  pub few : count ≤ entry_limit
  pub shapes : Shapes old from at rank shape
  pub room : room_end to (rank + 1) ≤ length s

-- what they yield in a mode, fitted to the new shape
abbrev pub yielded : Mode → ℕ → ℕ → ℕ → List ℤ → List ℕ → List (List ℕ)
yielded mode first count old from new =
    gather (λ d. fitted_yields mode (extents_in old from) new d) (rows_at first (old + 1) count from)

-- ---- rows plus every index

-- a row and an index whose sums are below 2 ^ 31
pub record AddAsked (at w : ℕ) (from index : List ℤ) : Type 0 where
  pub room : at + w ≤ length from
  pub narrow : w ≤ 5
  pub long : length index ≡ 5
  pub sums_low : (k : ℕ) → k < w → get_or (row_at at w from) k 0 + get_or (row_at 0 w index) k 0 < 2 ^ 31

-- an index over extents, w of each
pub record TurnAsked (w : ℕ) (extents index : List ℤ) : Type 0 where
  pub room : w ≤ length index
  pub extents_are : Extents 0 w extents
  pub below : all_below (row_at 0 w index) (row_at 0 w extents) ≡ true

-- if it is not the last one, the next stands there
pub record Turned (w : ℕ) (extents s t : List ℤ) : Type 0 where
  pub next : ravel_index (row_at 0 w s) (row_at 0 w extents) + 1 < product (row_at 0 w extents) → ravel_index (row_at 0 w t) (row_at 0 w extents) ≡ ravel_index (row_at 0 w s) (row_at 0 w extents) + 1
  pub below : ravel_index (row_at 0 w s) (row_at 0 w extents) + 1 < product (row_at 0 w extents) → all_below (row_at 0 w t) (row_at 0 w extents) ≡ true

-- a row, the number of all indices, and a table that can take such rows
pub record MovesAsked (at w : ℕ) (from extents : List ℤ) (size to : ℕ) (s : List ℤ) : Type 0 where
  pub room : at + w ≤ length from
  pub narrow : w ≤ 5
  pub sums_most : (k : ℕ) → k < w → get_or (row_at at w from) k 0 + get_or (row_at 0 w extents) k 0 ≤ 2 ^ 31
  pub extents_are : Extents 0 w extents
  pub size_is : size ≡ product (row_at 0 w extents)
  pub target : Ready to w s

-- some rows of a record with small numbers, extents, and room for rows
pub record RowsAsked (first count w : ℕ) (from extents s : List ℤ) : Type 0 where
  pub room : first + count * w ≤ length from
  pub few : count ≤ entry_limit
  pub narrow : w ≤ 4
  pub rows_small : Each (λ r. (k : ℕ) → k < w → get_or r k 0 ≤ product_limit) (rows_at first w count from)
  pub extents_are : Extents 0 w extents
  pub target : room_end rows_from w ≤ length s

-- each row plus each index
abbrev pub moved_rows : ℕ → ℕ → ℕ → List ℤ → List ℕ → List (List ℕ)
moved_rows first count w from extents = gather (λ r. in_turn (λ n. plus r (unravel n extents) ∷ []) (product extents)) (rows_at first w count from)
