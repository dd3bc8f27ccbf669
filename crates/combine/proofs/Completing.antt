-- `complete` and `complete_bare`: a head and dependencies around rows that stand there. Assumes nothing.
use mathlib.Core.Path.{◌≡◌, ◌∙◌}
use mathlib.Core.Bool.{Bool, true}
use mathlib.Core.List.{List, []}
use mathlib.Core.Logic.{inl, inr}
use Prim.Native.Nat.{ℕ, ◌+◌, ◌-◌, ◌<◌, ◌≤◌}
use native.Mathlib.Omega.{arith}
use lib.IntN.{ℤ, pos}
use lib.ListN.{get_or, set}
use Rattle.rules.specs.Limits.{entry_limit}
use Rattle.rules.specs.Buffers.{part}
use Rattle.cells.specs.View.{view}
use Rattle.cells.proofs.View.{stored_number}
use Rattle.tables.specs.Tables.{table_at, Only}
use Rattle.tables.proofs.Only.{only_then, only_wider, only_set, view_outside, row_outside, count_outside, table_outside}
use Rattle.tables.proofs.Made.{emptied}
use Rattle.parts.specs.Parts.{extents_from, rows_from, states_from, inputs_from, window_size, left, target, spare, kind_at, dense_at, rank_at, layout_at, Window}
use Rattle.parts.proofs.Holds.{rank_most}
use Rattle.combine.specs.Window.{DepsAsked, HeadAsked, BareAsked, CompleteAsked, HeadMade, DepsMade, merged_states, merged_inputs, shaped, rows_there, Completed, Made}
use Rattle.combine.proofs.Rooms.{in_target, first_same, second_same, first_rank, window_still, deps_still}

-- the head can be written
pub ask_head : {kind dense : ℕ} {s : List ℤ} → CompleteAsked kind dense s → HeadAsked kind dense s
ask_head q = q.bare.head

module _ {kind dense : ℕ} {s t : List ℤ} (q : CompleteAsked kind dense s) (h : HeadMade kind dense s t) where
  head_target : Only target spare s t
  head_target = only_wider h.only target spare (omega arith) (omega arith)

  head_wide : Only target window_size s t
  head_wide = in_target head_target

  pub ask_deps : DepsAsked t
  ask_deps = deps_still q.bare.deps head_wide

  abbrev window : Window s
  window = q.bare.deps.window

  -- dependencies behind the head, whatever they are
  module _ {states inputs : List (List ℕ)} {u : List ℤ} {r : Bool} (d : DepsMade states inputs t u r) where
    head_number : (k : ℕ) → k < rows_from → get_or (view u) (target + k) 0 ≡ get_or (view t) (target + k) 0
    head_number k l = view_outside d.only (target + k) (inl (omega arith))

    kind_is : kind_at target u ≡ kind
    kind_is = view_outside d.only target (inl (omega arith)) ∙ h.kind_is

    dense_is : dense_at target u ≡ dense
    dense_is = head_number 1 (omega arith) ∙ h.dense_is

    rank_is : rank_at target u ≡ rank_at left s
    rank_is = head_number 2 (omega arith) ∙ h.rank_is

    shape_is : part (target + extents_from) (rank_at left s) (view u) ≡ part (left + extents_from) (rank_at left s) (view s)
    shape_is = let m = rank_most window.first in row_outside d.only (target + extents_from) (rank_at left s) (inl (omega arith)) ∙ h.shape_is

    rows_are : table_at (target + rows_from) (rank_at left s - dense) u ≡ rows_there dense s
    rows_are =
        let w = rank_at left s - dense in
        let m = rank_most window.first in
        let few : get_or (view t) (target + rows_from) 0 ≤ entry_limit = rw (count_outside h.only (target + rows_from) w q.rows_few (inr (omega arith))) q.rows_few in
        table_outside d.only (target + rows_from) w few (inl (omega arith)) ∙ table_outside h.only (target + rows_from) w q.rows_few (inr (omega arith))

    states_there : r ≡ true → table_at (target + states_from) (rank_at left s + 1) u ≡ states
    states_there z = rw (first_rank window head_wide) at (d.states_are z)

    inputs_there : r ≡ true → table_at (target + inputs_from) (rank_at left s + 1) u ≡ inputs
    inputs_there z = rw (first_rank window head_wide) at (d.inputs_are z)

    pub complete_made : Completed kind dense states inputs s u r
    unfolding layout_at
    complete_made = record {
      verdict = d.verdict;
      layout = λ z. rw (kind_is, dense_is, rank_is, shape_is, rows_are, states_there z, inputs_there z);
      only = only_then head_target (only_wider d.only target spare (omega arith) (omega arith));
    }

  -- those of both layouts, merged, are the same before the head and behind it
  pub merged_made : {u : List ℤ} {r : Bool} → DepsMade (merged_states t) (merged_inputs t) t u r → Completed kind dense (merged_states s) (merged_inputs s) s u r
  merged_made d = rw (first_same window head_wide, second_same window head_wide) at (complete_made d)

-- ---- with no rows

module _ {kind dense : ℕ} {s t : List ℤ} (q : BareAsked kind dense s) (e : t ≡ set s (target + rows_from) (pos 0)) where
  abbrev bare_window : Window s
  bare_window = q.deps.window

  cleared : Only target window_size s t
  cleared = rw e (only_wider (only_set (target + rows_from) (pos 0) s) target window_size (omega arith) (omega arith))

  pub ask_complete : CompleteAsked kind dense t
  ask_complete = record {
    bare = record {
      deps = deps_still q.deps cleared;
      head = record {
        window = window_still bare_window cleared;
        kind_most = q.head.kind_most;
        dense_most = rw (first_rank bare_window cleared) q.head.dense_most;
      };
    };
    rows_few = rw (e, stored_number (target + rows_from) 0 s (omega (arith, bare_window.room))) (omega arith);
  }

  pub bare_made : {u : List ℤ} {r : Bool} → Completed kind dense (merged_states t) (merged_inputs t) t u r →
      Made (shaped kind dense [] (merged_states s) (merged_inputs s) (layout_at left s)) s u r
  bare_made c =
      let m = rank_most bare_window.first in
      let w = rank_at left s - dense in
      let empty : table_at (target + rows_from) w t ≡ [] = rw e (emptied (target + rows_from) w s (omega (arith, bare_window.room))) in
      record {
        verdict = rw (first_same bare_window cleared, second_same bare_window cleared) at c.verdict;
        layout = λ z. rw (first_rank bare_window cleared, first_same bare_window cleared, second_same bare_window cleared, empty) at (c.layout z);
        only = only_then cleared (in_target c.only);
      }

pub ruleset laws = (ask_head, ask_deps, merged_made, ask_complete, bare_made)
