-- Two layouts in a window of parts: which way they are taken, and what is made of them in the target, by whatever rule.
use Rattle.std.specs.Prelude.{Err, Ok, Result, ⊤}
use Rattle.rules.specs.declared.Refusal.{Refusal}
use Rattle.std.specs.Prelude.{◌≡◌, Bool, true, false, ◌&&◌, ◌||◌, List, ℕ, ◌+◌, ◌-◌, ◌≤◌, ℤ, get_or}
use Rattle.rules.specs.declared.Refusal.TheVariants.{MadeTooLarge}
use Rattle.rules.specs.Limits.{entry_limit}
use Rattle.rules.specs.Lists.{if, same}
use Rattle.rules.specs.Buffers.{part}
use Rattle.rules.specs.RowsInOrder.{sorted, merge, Increasing}
use Rattle.rules.specs.Refusals.{Verdict}
use Rattle.rules.specs.Layout.{Layout, is_dense, few}
use Rattle.rules.specs.Removal.{lists_row}
use Rattle.rules.specs.Pairs.{lowered, lower_d, bars_expansion, few_of, alike_diagonals}
use Rattle.cells.specs.View.{view}
use Rattle.tables.specs.Tables.{table_at, Only, PairAsked}
use Rattle.parts.specs.Parts.{extents_from, rows_from, states_from, inputs_from, window_size, left, right, target, spare, other_spare, kind_at, dense_at, rank_at, layout_at, Window}
use Rattle.parts.specs.Answers.{Says}
use Rattle.combine.specs.declared.window.Way.{Way}
use Rattle.combine.specs.declared.window.Way.TheVariants.{Dense, Diagonals, Rows}

-- ---- which way

-- with a dense one; two diagonals with equal D; otherwise by rows
unfoldable pub way_of : Layout → Layout → Way
way_of a b = if (is_dense a || is_dense b) Dense (if (alike_diagonals a b) Diagonals Rows)

-- ---- what is asked

-- a kind and a D for a layout of the shape of the left one
pub record HeadAsked (kind dense : ℕ) (s : List ℤ) : Type 0 where
  pub window : Window s
  pub kind_most : kind ≤ 2
  pub dense_most : dense ≤ rank_at left s

-- the layouts have one rank
pub record DepsAsked (s : List ℤ) : Type 0 where
  pub window : Window s
  pub ranks : rank_at left s ≡ rank_at right s

-- with a kind and a D
pub record BareAsked (kind dense : ℕ) (s : List ℤ) : Type 0 where
  pub deps : DepsAsked s
  pub head : HeadAsked kind dense s

-- and rows that stand in the target
pub record CompleteAsked (kind dense : ℕ) (s : List ℤ) : Type 0 where
  pub bare : BareAsked kind dense s
  pub rows_few : get_or (view s) (target + rows_from) 0 ≤ entry_limit

-- the layouts have one shape, and are taken by their rows
pub record RowsAsked (s : List ℤ) : Type 0 where
  pub window : Window s
  pub shapes : same (layout_at left s).shape (layout_at right s).shape ≡ true
  pub way : way_of (layout_at left s) (layout_at right s) ≡ Rows

-- the layouts are taken by their rows, with the smaller D; no diagonal bars it and no row would be listed too early
pub record BothAsked (d : ℕ) (s : List ℤ) : Type 0 where
  pub asked : RowsAsked s
  pub lower : d ≡ lower_d (layout_at left s) (layout_at right s)
  pub expand : (bars_expansion (layout_at left s) || bars_expansion (layout_at right s)) ≡ false
  pub list_none : (lists_row (layout_at left s) d || lists_row (layout_at right s) d) ≡ false

-- the rows of both increase
pub record Rising (s : List ℤ) : Type 0 where
  pub first : Increasing (layout_at left s).rows
  pub second : Increasing (layout_at right s).rows

-- ---- what is made

-- the rows of both stand in the spare room, lowered and in order, if neither has too many
pub record BothLowered (d : ℕ) (s t : List ℤ) (r : Bool) : Type 0 where
  pub verdict : r ≡ few (sorted (lowered (layout_at left s) d).rows) && few (sorted (lowered (layout_at right s) d).rows)
  pub first : r ≡ true → table_at (spare + rows_from) (rank_at left s - d) t ≡ sorted (lowered (layout_at left s) d).rows
  pub second : r ≡ true → table_at (other_spare + rows_from) (rank_at left s - d) t ≡ sorted (lowered (layout_at right s) d).rows
  pub pair : r ≡ true → PairAsked (spare + rows_from) (other_spare + rows_from) (target + rows_from) (rank_at left s - d) t
  pub only : Only spare window_size s t

-- the head of the target
pub record HeadMade (kind dense : ℕ) (s t : List ℤ) : Type 0 where
  pub kind_is : kind_at target t ≡ kind
  pub dense_is : dense_at target t ≡ dense
  pub rank_is : rank_at target t ≡ rank_at left s
  pub shape_is : part (target + extents_from) (rank_at left s) (view t) ≡ part (left + extents_from) (rank_at left s) (view s)
  pub only : Only target (target + rows_from) s t

-- two lists of dependencies stand in the target, if they are not too many
pub record DepsMade (states inputs : List (List ℕ)) (s t : List ℤ) (r : Bool) : Type 0 where
  pub verdict : r ≡ few states && few inputs
  pub states_are : r ≡ true → table_at (target + states_from) (rank_at left s + 1) t ≡ states
  pub inputs_are : r ≡ true → table_at (target + inputs_from) (rank_at left s + 1) t ≡ inputs
  pub only : Only (target + states_from) spare s t

-- the dependencies of both layouts, merged
abbrev pub merged_states : List ℤ → List (List ℕ)
merged_states s = merge (layout_at left s).states (layout_at right s).states

abbrev pub merged_inputs : List ℤ → List (List ℕ)
merged_inputs s = merge (layout_at left s).inputs (layout_at right s).inputs

-- a layout of the shape of another one, its lists given
abbrev pub shaped : ℕ → ℕ → List (List ℕ) → List (List ℕ) → List (List ℕ) → Layout → Layout
shaped kind dense rows states inputs l = record { kind = kind; dense = dense; shape = l.shape; rows = rows; states = states; inputs = inputs }

-- the rows that stand in the target
abbrev pub rows_there : ℕ → List ℤ → List (List ℕ)
rows_there dense s = table_at (target + rows_from) (rank_at left s - dense) s

-- they are completed to a layout of the shape of the left one, if the dependencies are not too many
pub record Completed (kind dense : ℕ) (states inputs : List (List ℕ)) (s t : List ℤ) (r : Bool) : Type 0 where
  pub verdict : r ≡ few states && few inputs
  pub layout : r ≡ true → layout_at target t ≡ shaped kind dense (rows_there dense s) states inputs (layout_at left s)
  pub only : Only target spare s t

-- a layout stands in the target, if its lists are not too long; the two parts behind it are spare room
pub record Made (l : Layout) (s t : List ℤ) (r : Bool) : Type 0 where
  pub verdict : r ≡ few_of l
  pub layout : r ≡ true → layout_at target t ≡ l
  pub only : Only target window_size s t

-- the answer of a step that made a layout, or found it too large
abbrev pub made_step : Bool → Result ⊤ Refusal
made_step few = if few (Ok tt) (Err MadeTooLarge)

-- what a step says of the target is what a rule gives for the left and the right layout
pub record Combined (rule : Layout → Layout → Verdict Layout) (s t : List ℤ) (r : Result ⊤ Refusal) : Type 0 where
  pub says : Says (rule (layout_at left s) (layout_at right s)) target t r
  pub only : Only target window_size s t
