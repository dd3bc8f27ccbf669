-- A layout in a part that dependencies are filtered by: its head and its rows stand there, and its rows increase.
use Rattle.std.specs.Prelude.{◌≡◌, Bool, List, [], ◌∷◌, ◌⊎◌, ℕ, ◌+◌, ◌≤◌, ℤ, length}
use Rattle.rules.specs.Lists.{if}
use Rattle.rules.specs.Layout.{Layout, with_deps}
use Rattle.rules.specs.Dependencies.{filter_deps}
use Rattle.tables.specs.Rows.{HasRow}
use Rattle.tables.specs.Tables.{table_at, room_end, Only, Ready}
use Rattle.parts.specs.Parts.{rows_from, states_from, kind_at, dense_at, rank_at, width_at, layout_at}

-- the layout at a place, whatever stands where its dependencies would
abbrev pub filter_at : ℕ → List ℤ → Layout
filter_at at s = with_deps [] [] (layout_at at s)

-- its head and rows are there, and its rows increase
pub record Filters (at : ℕ) (s : List ℤ) : Type 0 where
  pub inside : at + states_from ≤ length s
  pub rank_most : rank_at at s ≤ 4
  pub dense_most : dense_at at s ≤ rank_at at s
  pub rows : Ready (at + rows_from) (width_at at s) s
  pub diagonal_wide : kind_at at s ≡ 1 → 1 ≤ rank_at at s

-- and an index
pub record HeldAsked (at p : ℕ) (s : List ℤ) : Type 0 where
  pub filters : Filters at s
  pub index : HasRow p (rank_at at s) s

-- a diagonal, and an index
pub record DiagonalAsked (at p : ℕ) (s : List ℤ) : Type 0 where
  pub asked : HeldAsked at p s
  pub wide : 1 ≤ rank_at at s

-- an entry, if a test holds
abbrev pub taken_if : Bool → List ℕ → List (List ℕ)
taken_if b row = if b (row ∷ []) []

-- a table that can take entries, and an entry apart from it
pub record EntryAsked (at p to w : ℕ) (s : List ℤ) : Type 0 where
  pub filters : Filters at s
  pub width : w ≡ rank_at at s + 1
  pub entry : HasRow p w s
  pub target : Ready to w s
  pub apart : (p + w ≤ to) ⊎ (room_end to w ≤ p)

-- a table of entries, and room for another one apart from it and from the head and the rows
pub record KeepAsked (at from to : ℕ) (s : List ℤ) : Type 0 where
  pub filters : Filters at s
  pub entries : Ready from (rank_at at s + 1) s
  pub room : to + 641 ≤ length s
  pub apart : (at + states_from ≤ to) ⊎ (to + 641 ≤ at)
  pub entries_apart : (from + 641 ≤ to) ⊎ (to + 641 ≤ from)

-- the entries that the layout holds are the other table
pub record Kept (at from to : ℕ) (s t : List ℤ) : Type 0 where
  pub table : table_at to (rank_at at s + 1) t ≡ filter_deps (filter_at at s) (table_at from (rank_at at s + 1) s)
  pub ready : Ready to (rank_at at s + 1) t
  pub only : Only to (room_end to (rank_at at s + 1)) s t
