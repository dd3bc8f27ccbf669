-- A record stretched into a part: what is asked, and its tables.
use Rattle.std.specs.Prelude.{◌≡◌, Bool, true, ◌&&◌, List, ℕ, ◌+◌, ◌≤◌, ℤ, length}
use Rattle.rules.specs.declared.Head.{Head}
use Rattle.rules.specs.declared.Mode.{Mode}
use Rattle.rules.specs.Layout.{Layout, width, few}
use Rattle.rules.specs.Stretching.{stretch_rows, stretch_deps, shared_axes_fit}
use Rattle.tables.specs.Rows.{row_at}
use Rattle.tables.specs.Tables.{table_at, Only}
use Rattle.records.specs.Sound.{SoundRecord}
use Rattle.parts.specs.Parts.{part_size, rows_from, states_from, inputs_from}
use Rattle.stretch.specs.Spread.{Shapes}

-- a sound record, and a new shape
pub record StretchAsked (h : Head) (from : List ℤ) (at rank : ℕ) (shape : List ℤ) : Type 0 where
  pub source : SoundRecord h from
  pub shapes : Shapes h.rank from at rank shape

-- whose shared axes are 1 or equal, with room for a layout
pub record FillAsked (h : Head) (from : List ℤ) (at rank : ℕ) (shape s : List ℤ) : Type 0 where
  pub asked : StretchAsked h from at rank shape
  pub fits : shared_axes_fit (row_at 3 h.rank from) (row_at at rank shape) ≡ true
  pub wide : h.width ≤ rank
  pub room : part_size ≤ length s

-- the tables of a layout stretched in a mode to a shape stand in the part, if none is too long
pub record TablesMade (mode : Mode) (l : Layout) (new : List ℕ) (s t : List ℤ) (r : Bool) : Type 0 where
  pub verdict : r ≡ few (stretch_rows l new) && few (stretch_deps mode l.shape new l.states) && few (stretch_deps mode l.shape new l.inputs)
  pub rows : r ≡ true → table_at rows_from (width l) t ≡ stretch_rows l new
  pub states : r ≡ true → table_at states_from (length new + 1) t ≡ stretch_deps mode l.shape new l.states
  pub inputs : r ≡ true → table_at inputs_from (length new + 1) t ≡ stretch_deps mode l.shape new l.inputs
  pub only : Only rows_from part_size s t
