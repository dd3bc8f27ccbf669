-- Sections of a part stay while others are written, and together they are its layout. Assumes nothing.
use Rattle.std.specs.Prelude.{Ok}
use mathlib.Core.Path.{◌≡◌, ◌∙◌}
use mathlib.Core.List.{List}
use mathlib.Core.Logic.{◌⊎◌, inl}
use Prim.Native.Nat.{ℕ, ◌+◌, ◌≤◌}
use native.Mathlib.Omega.{arith}
use lib.IntN.{ℤ}
use lib.ListN.{length, get_or}
use Rattle.rules.specs.Limits.{rank_limit, entry_limit}
use Rattle.rules.specs.Refusals.{Verdict, given}
use Rattle.rules.specs.Layout.{Layout, rank, width}
use Rattle.rules.specs.Soundness.{Sound, DepsLow}
use Rattle.cells.specs.View.{view}
use Rattle.tables.specs.Tables.{room_end, Only}
use Rattle.tables.proofs.Only.{view_outside, row_outside, table_outside}
use Rattle.tables.proofs.Tables.{table_length}
use Rattle.parts.specs.Parts.{part_size, extents_from, rows_from, states_from, inputs_from, layout_at}
use Rattle.parts.specs.Answers.{Says}
use Rattle.moving.specs.Sections.{HeadIs, TableIs}

-- ---- what stays

module _ {a e : ℕ} {s t : List ℤ} (o : Only a e s t) where
  -- the head, while something behind it is written
  pub head_stays : {kind dense : ℕ} {shape : List ℕ} → length shape ≤ rank_limit → rows_from ≤ a → HeadIs kind dense shape s → HeadIs kind dense shape t
  head_stays {shape = shape} few h p = record {
    kind_is = view_outside o 0 (inl (omega arith)) ∙ p.kind_is;
    dense_is = view_outside o 1 (inl (omega arith)) ∙ p.dense_is;
    rank_is = view_outside o 2 (inl (omega arith)) ∙ p.rank_is;
    shape_is = row_outside o extents_from (length shape) (inl (omega arith)) ∙ p.shape_is;
  }

  -- a table, while something outside its room is
  pub table_stays : {at w : ℕ} {rows : List (List ℕ)} → (room_end at w ≤ a) ⊎ (e ≤ at) → TableIs at w rows s → TableIs at w rows t
  table_stays {at} {w} d p =
      let few : get_or (view s) at 0 ≤ entry_limit = rw (← table_length at w s, p.rows_are) p.few in
      record { rows_are = table_outside o at w few d ∙ p.rows_are; few = p.few }

-- ---- the layout

-- a head and three tables make it
pub assembled : {l : Layout} {t : List ℤ} → HeadIs l.kind l.dense l.shape t → TableIs rows_from (width l) l.rows t →
    TableIs states_from (rank l + 1) l.states t → TableIs inputs_from (rank l + 1) l.inputs t → layout_at 0 t ≡ l
unfolding layout_at
assembled h rows states inputs = rw (h.kind_is, h.dense_is, h.rank_is, h.shape_is, rows.rows_are, states.rows_are, inputs.rows_are)

-- a step that made the layout that a rule gives says so
pub says_made : {v : Verdict Layout} {l : Layout} {t : List ℤ} → v ≡ given l → layout_at 0 t ≡ l → Sound l → DepsLow l → part_size ≤ length t → Says v 0 t (Ok tt)
says_made e f s low h = record { is = rw (e, f); holds = λ _. record { inside = h; sound = rw f s; low = rw f low } }
