-- `pick_deps`: states and inputs of a record are picked one after the other. Assumes nothing.
use mathlib.Core.List.{List, map}
use mathlib.Core.Logic.{inl}
use Prim.Native.Nat.{ℕ, ◌+◌, ◌≤◌}
use native.Mathlib.Omega.{arith}
use lib.IntN.{ℤ}
use lib.ListN.{length, take}
use Rattle.rules.specs.declared.Head.{Head}
use Rattle.rules.specs.RowsInOrder.{sorted}
use Rattle.rules.specs.Record.{layout_in}
use Rattle.tables.specs.Rows.{rows_at}
use Rattle.tables.specs.Tables.{room_end}
use Rattle.tables.proofs.Only.{only_then, only_wider}
use Rattle.records.specs.Sound.{SoundRecord}
use Rattle.records.proofs.Layouts.{has_rows_there, has_states, has_inputs}
use Rattle.records.proofs.SoundRecords.{lies, layout_shown}
use Rattle.parts.specs.Parts.{part_size, states_from, inputs_from}
use Rattle.moving.specs.Sections.{TableMade}
use Rattle.moving.specs.Picking.{picked, PickAsked, DepsPicked}
use Rattle.moving.proofs.Sections.{table_stays}

module _ {h : Head} {s : List ℤ} (r : SoundRecord h s) {w : ℕ} (narrow : w ≤ 5) {t : List ℤ} where
  -- what is asked for rows, states and inputs
  pub ask_rows : {at : ℕ} → room_end at w ≤ length t → PickAsked h.rows h.width w s at t
  ask_rows room = record { has = has_rows_there r.readable; few = (lies r).rows_few; narrow = narrow; room = room }

  module _ (room : part_size ≤ length t) where
    pub ask_states : PickAsked h.states (h.rank + 1) w s states_from t
    ask_states = record { has = has_states r.readable; few = (lies r).states_few; narrow = narrow; room = omega arith }

    pub ask_inputs : PickAsked h.inputs (h.rank + 1) w s inputs_from t
    ask_inputs = record { has = has_inputs r.readable; few = (lies r).inputs_few; narrow = narrow; room = omega arith }

    -- both were picked
    module _ (places : List ℕ) {u v : List ℤ}
        (p : TableMade states_from w (sorted (map (picked 0 (take w places)) (rows_at h.states.first (h.rank + 1) h.states.count s))) t u)
        (q : TableMade inputs_from w (sorted (map (picked 0 (take w places)) (rows_at h.inputs.first (h.rank + 1) h.inputs.count s))) u v) where
      pub deps_picked : DepsPicked (take w places) w (layout_in s) t v
      deps_picked = record {
        states = rw (layout_shown r) (table_stays q.only (inl (omega arith)) p.table);
        inputs = rw (layout_shown r) q.table;
        only = only_then (only_wider p.only states_from part_size (omega arith) (omega arith)) (only_wider q.only states_from part_size (omega arith) (omega arith));
      }
