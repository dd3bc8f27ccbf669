-- Layouts folded one after the other, as the code goes: what is folded so far is the left layout of a window.
use Rattle.std.specs.Prelude.{Ok, Result, ⊤}
use Rattle.rules.specs.declared.Refusal.{Refusal}
use Rattle.std.specs.Prelude.{◌≡◌, Bool, true, false, ◌&&◌, List, [], ◌∷◌, reverse, ℕ, ◌+◌, ◌≤◌, ℤ, eqb, length, get_or}
use Rattle.rules.specs.declared.Mode.{Mode}
use Rattle.rules.specs.declared.Rule.{Rule}
use Rattle.rules.specs.Limits.{entry_limit}
use Rattle.rules.specs.Lists.{same}
use Rattle.rules.specs.RowsInOrder.{increasing}
use Rattle.rules.specs.Refusals.{Verdict, given, ◌then◌, ◌when◌, lowest}
use Rattle.rules.specs.Layout.{Layout}
use Rattle.rules.specs.Broadcast.{combine, divides_by_sparse, stretch_all, fold_back, end_of_broadcast}
use Rattle.cells.specs.View.{view}
use Rattle.tables.specs.Tables.{table_at, room_end, Only, Fits}
use Rattle.parts.specs.Parts.{left, right, target, window_size, layout_at, Holds}
use Rattle.parts.specs.Answers.{Says}

-- kind, D and shape are equal
abbrev pub same_heads : Layout → Layout → Bool
same_heads a b = eqb a.kind b.kind && eqb a.dense b.dense && same a.shape b.shape

-- one fold; 9 belongs to the first
abbrev pub fold_one : Bool → Rule → Layout → Layout → Verdict Layout
fold_one first rule l next = lowest (9 when (first && divides_by_sparse rule l next) ∷ []) then λ _. combine rule l next

-- one fold after the other
unfoldable pub fold_from : Bool → Rule → Layout → List Layout → Verdict Layout
fold_from first rule l [] = given l
fold_from first rule l (next ∷ layouts) = fold_one first rule l next then λ both. fold_from false rule both layouts

-- the left layout of a window has its rows in order
pub record LeftReady (s : List ℤ) : Type 0 where
  pub holds : Holds left s
  pub ordered : increasing (layout_at left s).rows ≡ true
  pub room : window_size ≤ length s

-- a given layout is the left one
pub record LeftIs (l : Layout) (s : List ℤ) : Type 0 where
  pub layout : layout_at left s ≡ l
  pub ready : LeftReady s

-- a table at a place of the target, which ends before the right part if it stands in the left one
pub record CarryAsked (at w : ℕ) (s : List ℤ) : Type 0 where
  pub source : Fits (target + at) w s
  pub before : room_end at w ≤ right

-- it is the table at that place of the left part
pub record TableCarried (at w : ℕ) (s t : List ℤ) : Type 0 where
  pub table : table_at at w t ≡ table_at (target + at) w s
  pub few : get_or (view t) at 0 ≤ entry_limit
  pub only : Only at (room_end at w) s t

-- the layout that stood in the target is the left one
pub record Carried (s t : List ℤ) : Type 0 where
  pub layout : layout_at left t ≡ layout_at target s
  pub size : length t ≡ length s

-- what a step says of the left part is v, and if it made a layout its rows are in order
pub record Folded (v : Verdict Layout) (s : List ℤ) (step : Result ⊤ Refusal) : Type 0 where
  pub says : Says v left s step
  pub ready : step ≡ Ok tt → LeftReady s

-- all stretched in a mode to a shape, folded from the last, and ended
unfoldable pub broadcast_to : Mode → List ℕ → List Layout → Rule → Verdict Layout
broadcast_to mode shape layouts rule = stretch_all mode shape layouts then λ all. fold_back rule (reverse all) then λ l. end_of_broadcast l
