-- Entries of blocks in tables of a window.
use Rattle.std.specs.Prelude.{◌≡◌, Bool, true, false, ◌&&◌, List, [], ◌++◌, map, ℕ, ◌+◌, ◌<◌, ◌≤◌, ℤ, length, get_or, take, drop, replicate}
use Rattle.rules.specs.declared.Head.{Head}
use Rattle.rules.specs.Limits.{rank_limit, product_limit}
use Rattle.rules.specs.Lists.{all, gather, all_below, fit_to}
use Rattle.rules.specs.RowsInOrder.{sorted}
use Rattle.rules.specs.Layout.{few}
use Rattle.rules.specs.Record.{naturals, layout_in}
use Rattle.rules.specs.Dependencies.{on_index}
use Rattle.rules.specs.Concatenate.{Block, block_of, moved_by, moved_rows}
use Rattle.tables.specs.Rows.{HasRow}
use Rattle.tables.specs.Tables.{table_at, room_end, Only, Ready, Put}
use Rattle.parts.specs.Parts.{window_size, spare}
use Rattle.lists.specs.Places.{standing, Inside}
use Rattle.lists.specs.Starts.{StartOf, blocks_at}
use Rattle.lists.specs.Records.{JudgedRecord}
use Rattle.entries.specs.declared.entries.Listed.{Listed}
use Rattle.entries.specs.declared.entries.Listed.TheVariants.{Rows, States, Inputs}
use Rattle.entries.specs.Listing.{OfWidth, ListAsked, StartLow}

-- the first n numbers of an entry are at most 65,535
abbrev pub small_to : ℕ → List ℕ → Bool
small_to n row = all_below row (replicate n product_limit)

-- ---- one entry

-- an entry of w numbers, of which n are components, and a table that can take it
pub record SmallAsked (entry : List ℤ) (n to w : ℕ) (s : List ℤ) : Type 0 where
  pub row : HasRow 0 w entry
  pub narrow : n ≤ rank_limit
  pub upto : n ≤ w
  pub target : Ready to w s

-- a row is put into a table if it is small
pub record PutSmall (to w n : ℕ) (row : List ℕ) (s t : List ℤ) (r : Bool) : Type 0 where
  pub small : r ≡ true → small_to n row ≡ true
  pub put : small_to n row ≡ true → Put to w row s t r
  pub only : Only to (room_end to w) s t

-- ---- one list of one block

-- a list of a block, the start of the block, and room for a table
pub record TableAsked (x : Listed) (h : Head) (s : List ℤ) (start : List ℕ) (r w to : ℕ) (t : List ℤ) : Type 0 where
  pub list : ListAsked x h s r w
  pub start_low : StartLow start
  pub room : room_end to w ≤ length t

-- rows, in order and once each, are a table; or they are too many or not small
pub record Tabled (to w n e : ℕ) (rows : List (List ℕ)) (s t : List ℤ) (r : Bool) : Type 0 where
  pub verdict : r ≡ all (small_to n) rows && few (sorted rows)
  pub table : r ≡ true → table_at to w t ≡ sorted rows
  pub ready : r ≡ true → Ready to w t
  pub only : Only to e s t

-- ---- a table that takes the one in the spare part

-- a table before the spare part, in a window
pub record TargetReady (at w : ℕ) (s : List ℤ) : Type 0 where
  pub ready : Ready at w s
  pub before : room_end at w ≤ spare
  pub narrow : w ≤ 5
  pub room : window_size ≤ length s

-- rows are merged with a table, if they are small and not too many
pub record MergedMore (at w : ℕ) (small : Bool) (rows : List (List ℕ)) (s t : List ℤ) (r : Bool) : Type 0 where
  pub verdict : r ≡ small && few (sorted (table_at at w s ++ rows))
  pub table : r ≡ true → table_at at w t ≡ sorted (table_at at w s ++ rows)
  pub ready : r ≡ true → Ready at w t
  pub only : Only at window_size s t

-- ---- blocks

-- what a list of a block gives: rows only if it is not flagged as zero
abbrev pub entries_of : Listed → ℕ → Block → List (List ℕ)
entries_of Rows r b = moved_rows b
entries_of States r b = map (on_index (λ index. moved_by b.start (fit_to r 0 index))) b.layout.states
entries_of Inputs r b = map (on_index (λ index. moved_by b.start (fit_to r 0 index))) b.layout.inputs

-- whether a list of a block is left out
abbrev pub left_out : Listed → Block → Bool
left_out Rows b = b.zero
left_out States b = false
left_out Inputs b = false

-- the entries of all blocks
abbrev pub joined : Listed → ℕ → List Block → List (List ℕ)
joined x r blocks = gather (entries_of x r) blocks

-- a block whose record is sound, its start by value, and entries of w numbers
pub record BlockAsked (x : Listed) (r w : ℕ) (start : List ℕ) (block : List ℤ) : Type 0 where
  pub judged : JudgedRecord (drop (r + 1) block)
  pub few : r ≤ rank_limit
  pub start_is : StartOf (naturals (take r block)) start
  pub start_low : StartLow start
  pub fits : OfWidth x r w (layout_in (drop (r + 1) block))

-- so it is with n blocks
pub record AllAsked (x : Listed) (r w n : ℕ) (places : List ℕ) (starts : List (List ℕ)) (s : List ℤ) : Type 0 where
  pub inside : Inside n places s
  pub each : (i : ℕ) → i < n → BlockAsked x r w (get_or starts i []) (get_or (standing n places s) i [])

-- the blocks
abbrev pub blocks_of : ℕ → ℕ → List ℕ → List ℤ → List Block
blocks_of r n places s = map block_of (blocks_at r n places s)
