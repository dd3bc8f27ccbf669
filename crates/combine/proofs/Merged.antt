-- `merge_deps`: the states of both, and then the inputs. Assumes nothing.
use mathlib.Core.Path.{◌≡◌, refl, sym, ap, ◌∙◌}
use mathlib.Core.Bool.{Bool, true, false}
use mathlib.Core.List.{List}
use mathlib.Core.Logic.{inl}
use Prim.Native.Nat.{ℕ, ◌+◌, ◌*◌, ◌≤◌}
use native.Mathlib.Omega.{arith}
use lib.IntN.{ℤ}
use Rattle.rules.specs.RowsInOrder.{merge}
use Rattle.rules.specs.Layout.{few}
use Rattle.rules.proofs.Same.{true_not_false}
use Rattle.tables.specs.Tables.{table_at, Only, Ready, PairAsked, Merged}
use Rattle.tables.proofs.Only.{only_then, only_wider, table_outside}
use Rattle.tables.proofs.Made.{merged_ready}
use Rattle.parts.specs.Parts.{part_size, states_from, inputs_from, window_size, left, right, target, spare, rank_at, layout_at}
use Rattle.parts.proofs.Holds.{rank_most, states_ready, inputs_ready}
use Rattle.combine.specs.Window.{DepsAsked, merged_states, merged_inputs, DepsMade}
use Rattle.combine.proofs.Rooms.{first_same, second_same, first_rank, deps_still}

module _ {w : ℕ} {s : List ℤ} (q : DepsAsked s) (e : w ≡ rank_at left s + 1) where
  narrow : w ≤ 5
  narrow = let m = rank_most q.window.first in omega arith

  second_width : w ≡ rank_at right s + 1
  second_width = omega (arith, q.ranks)

  -- a table of both, at a place of their parts
  pair : (k : ℕ) → k + 1 + 128 * w ≤ part_size → Ready (left + k) w s → Ready (right + k) w s → PairAsked (left + k) (right + k) (target + k) w s
  pair k h x y = record {
    narrow = narrow;
    first = x;
    second = y;
    target = omega (arith, q.window.room);
    apart_first = inl (omega arith);
    apart_second = inl (omega arith);
  }

  pub ask_states : PairAsked (left + states_from) (right + states_from) (target + states_from) w s
  ask_states =
      let n = narrow in
      pair states_from (omega arith) (rw e (states_ready q.window.first)) (rw second_width (states_ready q.window.second))

  pub ask_inputs : PairAsked (left + inputs_from) (right + inputs_from) (target + inputs_from) w s
  ask_inputs =
      let n = narrow in
      pair inputs_from (omega arith) (rw e (inputs_ready q.window.first)) (rw second_width (inputs_ready q.window.second))

  states_merged : merge (table_at (left + states_from) w s) (table_at (right + states_from) w s) ≡ merged_states s
  unfolding layout_at
  states_merged = rw (e, q.ranks)

  inputs_merged : merge (table_at (left + inputs_from) w s) (table_at (right + inputs_from) w s) ≡ merged_inputs s
  unfolding layout_at
  inputs_merged = rw (e, q.ranks)

  module _ {t : List ℤ} {r : Bool} (p : Merged (left + states_from) (right + states_from) (target + states_from) w s t r) where
    states_only : Only (target + states_from) spare s t
    states_only = let n = narrow in only_wider p.only (target + states_from) spare (omega arith) (omega arith)

    states_wide : Only target window_size s t
    states_wide = only_wider states_only target window_size (omega arith) (omega arith)

    states_few : few (merged_states s) ≡ r
    states_few = sym (p.verdict ∙ ap few states_merged)

    -- too many states
    pub states_stop : r ≡ false → DepsMade (merged_states s) (merged_inputs s) s t false
    states_stop f = record {
      verdict = rw (states_few, f);
      states_are = λ z. absurd (true_not_false z refl);
      inputs_are = λ z. absurd (true_not_false z refl);
      only = states_only;
    }

    still : DepsAsked t
    still = deps_still q states_wide

    width_still : w ≡ rank_at left t + 1
    width_still = rw (first_rank q.window states_wide) e

-- the inputs behind the states
module _ {w : ℕ} {s t : List ℤ} {r : Bool} (q : DepsAsked s) (e : w ≡ rank_at left s + 1) (p : Merged (left + states_from) (right + states_from) (target + states_from) w s t r) where
  pub ask_then : PairAsked (left + inputs_from) (right + inputs_from) (target + inputs_from) w t
  ask_then = ask_inputs (still q e p) (width_still q e p)

  module _ {u : List ℤ} {v : Bool} (f : r ≡ true) (i : Merged (left + inputs_from) (right + inputs_from) (target + inputs_from) w t u v) where
    inputs_then : merge (table_at (left + inputs_from) w t) (table_at (right + inputs_from) w t) ≡ merged_inputs s
    inputs_then =
        let o = states_wide q e p in
        inputs_merged (still q e p) (width_still q e p) ∙ rw (first_same q.window o, second_same q.window o)

    pub deps_made : DepsMade (merged_states s) (merged_inputs s) s u v
    deps_made =
        let n = narrow q e in
        record {
          verdict = rw (states_few q e p, f, ← inputs_then) i.verdict;
          states_are = λ _.
              rw (← e)
              (table_outside i.only (target + states_from) w (merged_ready (ask_states q e) p f).fits.few (inl (omega arith))
              ∙ p.table f ∙ states_merged q e);
          inputs_are = λ z. rw (← e) (i.table z ∙ inputs_then);
          only = only_then (states_only q e p) (only_wider i.only (target + states_from) spare (omega arith) (omega arith));
        }
