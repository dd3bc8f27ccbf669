-- Kind, D, shape and rows of a layout written into a part, with rows or without. Assumes nothing.
use mathlib.Core.Path.{◌≡◌}
use mathlib.Core.List.{List, []}
use mathlib.Core.Logic.{inr}
use Prim.Native.Nat.{ℕ, ◌≤◌}
use native.Mathlib.Omega.{arith}
use lib.IntN.{ℤ, pos}
use lib.ListN.{length, set}
use Rattle.rules.specs.Layout.{Layout, width}
use Rattle.tables.proofs.Only.{only_then, only_wider, only_set}
use Rattle.tables.proofs.Made.{emptied}
use Rattle.parts.specs.Parts.{part_size, rows_from, states_from}
use Rattle.moving.specs.Sections.{HeadMade, TableMade}
use Rattle.moving.proofs.Sections.{table_stays}
use Rattle.reshape.specs.Contracting.{FrontMade}

-- the same head, otherwise said
pub head_same : {k k' d d' : ℕ} {e e' : List ℕ} {s t : List ℤ} → k ≡ k' → d ≡ d' → e ≡ e' → HeadMade k d e s t → HeadMade k' d' e' s t
head_same a b c m = rw (a, b, c) at m

module _ {l : Layout} (narrow : width l ≤ 4) {s t u : List ℤ} (room : part_size ≤ length s) (m : HeadMade l.kind l.dense l.shape t u) where
  -- rows that stood there before
  pub front_made : TableMade rows_from (width l) l.rows s t → FrontMade l s u
  front_made p = record {
    front = record { head = m.head; rows = table_stays m.only (inr (omega arith)) p.table };
    only =
        only_then (only_wider p.only 0 states_from (omega arith) (omega arith)) (only_wider m.only 0 states_from (omega arith) (omega arith));
  }

  -- no rows
  pub bare_front : t ≡ set s rows_from (pos 0) → l.rows ≡ [] → FrontMade l s u
  bare_front e none =
      front_made (record {
        table = record { rows_are = rw (e, none) (emptied rows_from (width l) s (omega arith)); few = rw none (omega arith) };
        only = rw e (only_wider (only_set rows_from (pos 0) s) rows_from _ (omega arith) (omega arith));
      })
