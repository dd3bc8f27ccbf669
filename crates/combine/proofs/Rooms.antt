-- Two layouts stay as they are while the rest of the window is written. Assumes nothing.
use mathlib.Core.Path.{◌≡◌, sym, ◌∙◌}
use mathlib.Core.List.{List}
use mathlib.Core.Logic.{inl}
use native.Mathlib.Omega.{arith}
use lib.IntN.{ℤ}
use Rattle.tables.specs.Tables.{Only}
use Rattle.tables.proofs.Only.{only_wider}
use Rattle.parts.specs.Parts.{window_size, left, right, target, spare, rank_at, layout_at, Window}
use Rattle.parts.proofs.Holds.{rank_outside, layout_outside, holds_outside}
use Rattle.combine.specs.Window.{DepsAsked}

-- what is written in the target is written behind both
pub in_target : {s t : List ℤ} → Only target spare s t → Only target window_size s t
in_target o = only_wider o target window_size (omega arith) (omega arith)

module _ {s t : List ℤ} (q : Window s) (o : Only target window_size s t) where
  pub first_same : layout_at left t ≡ layout_at left s
  first_same = layout_outside o (inl (omega arith)) q.first

  pub second_same : layout_at right t ≡ layout_at right s
  second_same = layout_outside o (inl (omega arith)) q.second

  pub first_rank : rank_at left t ≡ rank_at left s
  first_rank = rank_outside {at = left} o (inl (omega arith))

  pub second_rank : rank_at right t ≡ rank_at right s
  second_rank = rank_outside {at = right} o (inl (omega arith))

  pub window_still : Window t
  window_still = record {
    first = holds_outside o (inl (omega arith)) q.first;
    second = holds_outside o (inl (omega arith)) q.second;
    room = rw o.size q.room;
  }

-- dependencies can still be merged
pub deps_still : {s t : List ℤ} → DepsAsked s → Only target window_size s t → DepsAsked t
deps_still q o = record { window = window_still q.window o; ranks = first_rank q.window o ∙ q.ranks ∙ sym (second_rank q.window o) }
