-- What the functions of this crate answer, and what the lent slices then hold.
use Rattle.std.specs.Prelude.{Ok, Result, ⊤}
use Rattle.rules.specs.declared.Refusal.{Refusal}
use Rattle.std.specs.Prelude.{◌≡◌, List, map, ℕ, ◌+◌, ◌≤◌, ℤ, pos, length}
use Rattle.rules.specs.Buffers.{over, put, zeros}
use Rattle.rules.specs.Refusals.{Verdict, in_form}
use Rattle.rules.specs.Layout.{Layout, section, encode}
use Rattle.rules.specs.Record.{layout_in}
use Rattle.rules.specs.Endings.{says, step_says, result_after}
use Rattle.tables.specs.Tables.{table_at, room_end}
use Rattle.rules.specs.Limits.{work_size}
use Rattle.parts.specs.Parts.{left, right, layout_at, Holds, Window}

-- a part holds the layout of a record
pub record Loaded (from part : List ℤ) : Type 0 where
  pub layout : layout_at 0 part ≡ layout_in from
  pub holds : Holds 0 part

-- a window has the layouts of two records in its first two parts
pub record PairLoaded (s t window : List ℤ) : Type 0 where
  pub first : layout_at left window ≡ layout_in s
  pub second : layout_at right window ≡ layout_in t
  pub holds : Window window

-- the numbers of a table: its count, then its rows
abbrev pub numbers_of : List (List ℕ) → List ℤ
numbers_of rows = map pos (section rows)

-- the table at a place of s is written to a place of t, which makes it u; r is the place behind it
pub record TableStored (at w to : ℕ) (s t u : List ℤ) (r : ℕ) : Type 0 where
  pub is : u ≡ put to (numbers_of (table_at at w s)) t
  pub next : r ≡ to + length (numbers_of (table_at at w s))
  pub upto : r ≤ room_end to w

-- the layout of a part is written to the front of t as a record of r numbers, which makes it u
pub record Stored (part t u : List ℤ) (r : ℕ) : Type 0 where
  pub is : u ≡ over (encode (layout_at 0 part)) t
  pub count : r ≡ length (encode (layout_at 0 part))

-- what a step says of the part at a place, as a record
abbrev pub record_said : Result ⊤ Refusal → ℕ → List ℤ → Verdict (List ℤ)
record_said step at work = in_form encode (step_says step (layout_at at work))

-- a step says v: a layout, which stands in the part at a place, or a refusal
pub record Says (v : Verdict Layout) (at : ℕ) (s : List ℤ) (step : Result ⊤ Refusal) : Type 0 where
  pub is : step_says step (layout_at at s) ≡ v
  pub holds : step ≡ Ok tt → Holds at s

-- the end of a step: its answer, its record in the result, and a clear working buffer
pub record Finished (step : Result ⊤ Refusal) (at : ℕ) (work result : List ℤ) (r : Result ℕ Refusal) (work' result' : List ℤ) : Type 0 where
  pub answer : says r ≡ in_form length (record_said step at work)
  pub result_is : result' ≡ result_after (record_said step at work) result
  pub work_is : work' ≡ over (zeros work_size) work
