-- Entries that stand in a record as they are listed, and these moved into a table.
use Rattle.std.specs.Prelude.{None, Option, Some}
use Rattle.std.specs.Prelude.{◌≡◌, Bool, true, List, ℕ, ◌+◌, ◌≤◌, ℤ, length}
use Rattle.rules.specs.declared.Entries.{Entries}
use Rattle.rules.specs.Limits.{rank_limit, entry_limit}
use Rattle.rules.specs.Lists.{all}
use Rattle.rules.specs.Record.{layout_in}
use Rattle.tables.specs.Rows.{row_at, rows_at, HasRow, HasRows}
use Rattle.tables.specs.Tables.{table_at, room_end, Only}
use Rattle.entries.specs.declared.entries.Listed.{Listed}
use Rattle.entries.specs.Listing.{listed, OfWidth, StartLow}
use Rattle.entries.specs.Merging.{small_to}

-- ---- where they stand

-- the entries of a list stand in a slice, w numbers each, and none is negative
pub record Stands (x : Listed) (r w : ℕ) (s : List ℤ) (e : Entries) : Type 0 where
  pub has : HasRows e.first w e.count s
  pub few : e.count ≤ entry_limit
  pub are : rows_at e.first w e.count s ≡ listed x r (layout_in s)

-- where it is told that they stand, they do
abbrev pub StandsAs : Listed → ℕ → List ℤ → Option Entries → Type 0
StandsAs x r s (Some e) = (w : ℕ) → OfWidth x r w (layout_in s) → Stands x r w s e
StandsAs x r s None = Unit

-- ---- one of them moved

-- a row, a start for its first n numbers, and room for it
pub record PlaceAsked (p : ℕ) (src : List ℤ) (start : List ℕ) (n w to : ℕ) (s : List ℤ) : Type 0 where
  pub row : HasRow p w src
  pub start_low : StartLow start
  pub narrow : n ≤ rank_limit
  pub upto : n ≤ w
  pub room : to + w ≤ length s

-- a row stands at a place, if it is small
pub record Placed (to w n : ℕ) (row : List ℕ) (s t : List ℤ) (r : Bool) : Type 0 where
  pub verdict : r ≡ small_to n row
  pub there : r ≡ true → row_at to w t ≡ row
  pub only : Only to (to + w) s t

-- ---- all of them

-- rows, a start for the first n numbers of each, and room for a table
pub record RowsAsked (first count : ℕ) (src : List ℤ) (start : List ℕ) (n w to : ℕ) (s : List ℤ) : Type 0 where
  pub rows : HasRows first w count src
  pub few : count ≤ entry_limit
  pub start_low : StartLow start
  pub narrow : n ≤ rank_limit
  pub upto : n ≤ w
  pub room : room_end to w ≤ length s

-- rows are the table at a place as they come, if they are small
pub record AllPlaced (to w n : ℕ) (rows : List (List ℕ)) (s t : List ℤ) (r : Bool) : Type 0 where
  pub verdict : r ≡ all (small_to n) rows
  pub table : r ≡ true → table_at to w t ≡ rows
  pub only : Only to (room_end to w) s t
