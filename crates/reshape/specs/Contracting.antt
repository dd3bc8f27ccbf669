-- What is asked of a layout that is summed over its last axis, and what is made of it.
use Rattle.std.specs.Prelude.{◌≡◌, List, ℕ, ◌<◌, ◌≤◌, ℤ, length}
use Rattle.rules.specs.declared.Head.{Head}
use Rattle.rules.specs.Layout.{Layout, width}
use Rattle.tables.specs.Tables.{Only}
use Rattle.records.specs.Sound.{SoundRecord}
use Rattle.parts.specs.Parts.{part_size, rows_from, states_from}
use Rattle.moving.specs.Sections.{HeadIs, TableIs}

-- kind, D, shape and rows of a layout stand in a part
pub record FrontIs (l : Layout) (t : List ℤ) : Type 0 where
  pub head : HeadIs l.kind l.dense l.shape t
  pub rows : TableIs rows_from (width l) l.rows t

-- they were written, and nothing behind them
pub record FrontMade (l : Layout) (s t : List ℤ) : Type 0 where
  pub front : FrontIs l t
  pub only : Only 0 states_from s t

-- a sound record with an axis, and a part
pub record SumAsked (h : Head) (s t : List ℤ) : Type 0 where
  pub sound : SoundRecord h s
  pub axis : 0 < h.rank
  pub room : part_size ≤ length t

-- it is of a kind, and has no dense axis
pub record NoDenseAxis (kind : ℕ) (h : Head) (l : Layout) : Type 0 where
  pub kind_is : l.kind ≡ kind
  pub all_rows : h.rank ≤ h.width
