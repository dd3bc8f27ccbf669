-- What a block lists: its rows, or its dependencies fitted to the asked rank; and these moved by its start.
use Rattle.std.specs.Prelude.{◌≡◌, List, map, ℕ, ◌+◌, ◌<◌, ◌≤◌, ℤ, get_or}
use Rattle.rules.specs.declared.Head.{Head}
use Rattle.rules.specs.declared.Entries.{Entries}
use Rattle.rules.specs.Limits.{rank_limit, product_limit}
use Rattle.rules.specs.Lists.{if, fit_to}
use Rattle.rules.specs.Layout.{Layout, rank, width, is_sparse}
use Rattle.rules.specs.Record.{layout_in}
use Rattle.rules.specs.Dependencies.{on_index}
use Rattle.rules.specs.Concatenate.{moved_by, rows_of_block}
use Rattle.cells.specs.View.{view, Low}
use Rattle.tables.specs.Rows.{row_at, HasRows}
use Rattle.records.specs.Sound.{SoundRecord}
use Rattle.entries.specs.declared.entries.Listed.{Listed}
use Rattle.entries.specs.declared.entries.Listed.TheVariants.{Rows, States, Inputs}

-- dependencies fitted to a rank
abbrev pub fitted : ℕ → List (List ℕ) → List (List ℕ)
fitted r deps = map (on_index (fit_to r 0)) deps

-- the entries of a list of a layout
abbrev pub listed : Listed → ℕ → Layout → List (List ℕ)
listed Rows r l = rows_of_block l
listed States r l = fitted r l.states
listed Inputs r l = fitted r l.inputs

-- moved by a start
abbrev pub moved_list : Listed → ℕ → List ℕ → Layout → List (List ℕ)
moved_list x r start l = map (moved_by start) (listed x r l)

-- a row has R - D numbers if the layout is sparse, otherwise one for each axis
abbrev pub row_width : Layout → ℕ
row_width l = if (is_sparse l) (width l) (rank l)

-- the entries have w numbers each
abbrev pub OfWidth : Listed → ℕ → ℕ → Layout → Type 0
OfWidth Rows r w l = (rank l ≡ r) × (w ≡ row_width l)
OfWidth States r w l = (rank l ≤ r) × (w ≡ r + 1)
OfWidth Inputs r w l = (rank l ≤ r) × (w ≡ r + 1)

-- how many of them belong to axes: a dependency has its number behind them
abbrev pub axes_in : Listed → ℕ → ℕ → ℕ
axes_in Rows r w = w
axes_in States r w = r
axes_in Inputs r w = r

-- a sound record, and entries of it with w numbers for the asked rank
pub record ListAsked (x : Listed) (h : Head) (s : List ℤ) (r w : ℕ) : Type 0 where
  pub source : SoundRecord h s
  pub few : r ≤ rank_limit
  pub fits : OfWidth x r w (layout_in s)

-- dependencies that stand in a slice, and a rank that they are fitted to
pub record DepAsked (deps : Entries) (old r i : ℕ) (s : List ℤ) : Type 0 where
  pub has : HasRows deps.first (old + 1) deps.count s
  pub old_few : old ≤ rank_limit
  pub few : r ≤ rank_limit
  pub within : i < deps.count

-- no number of a start is above the limit
abbrev pub StartLow : List ℕ → Type 0
StartLow start = (k : ℕ) → get_or start k 0 ≤ product_limit

-- a row of which the first n numbers are small, to be moved
pub record MoveAsked (row : List ℤ) (start : List ℕ) (n : ℕ) : Type 0 where
  pub narrow : n ≤ rank_limit
  pub start_low : StartLow start
  pub row_low : (k : ℕ) → k < n → get_or (view row) k 0 ≤ product_limit

-- the first n numbers are sums, the others are as they were
pub record Moved (n : ℕ) (start : List ℕ) (row sum : List ℤ) : Type 0 where
  pub sums : (k : ℕ) → k < n → get_or (view sum) k 0 ≡ get_or start k 0 + get_or (view row) k 0
  pub rest : (k : ℕ) → n ≤ k → get_or (view sum) k 0 ≡ get_or (view row) k 0

-- the first w numbers of an entry are a row, and none is negative
pub record EntryIs (w : ℕ) (row : List ℕ) (entry : List ℤ) : Type 0 where
  pub is : row_at 0 w entry ≡ row
  pub low : Low row
