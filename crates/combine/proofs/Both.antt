-- `lower_both`: the rows of the left layout, and then those of the right one, stand in the spare room. Assumes nothing.
use mathlib.Core.Path.{◌≡◌, refl, sym, ap, ◌∙◌}
use mathlib.Core.Bool.{Bool, true, false}
use mathlib.Core.List.{List}
use mathlib.Core.Logic.{inl, inr}
use Prim.Native.Nat.{ℕ, ◌+◌, ◌-◌, ◌≤◌}
use native.Mathlib.Omega.{arith}
use lib.IntN.{ℤ}
use lib.ListN.{length}
use Rattle.rules.specs.RowsInOrder.{Increasing}
use Rattle.rules.specs.Pairs.{lowered}
use Rattle.rules.proofs.Same.{true_not_false, same_true}
use Rattle.tables.specs.Tables.{Only, Ready, Listed}
use Rattle.tables.proofs.Only.{only_then, only_wider, table_outside, ready_outside}
use Rattle.parts.specs.Parts.{rows_from, window_size, left, right, target, spare, other_spare, dense_at, rank_at, layout_at, Window}
use Rattle.parts.proofs.Holds.{rank_most, rank_is, dense_most}
use Rattle.lowering.specs.Lowering.{LowerAsked}
use Rattle.combine.specs.Window.{BothAsked, Rising, BothLowered}
use Rattle.combine.proofs.Ways.{way_told, Free, both_free}
use Rattle.combine.proofs.Rooms.{first_same, second_same, second_rank, window_still}

-- ---- what is asked stays true

module _ {d : ℕ} {s t : List ℤ} (q : BothAsked d s) (o : Only target window_size s t) where
  pub both_still : BothAsked d t
  both_still = record {
    asked = record {
      window = window_still q.asked.window o;
      shapes = rw (first_same q.asked.window o, second_same q.asked.window o) q.asked.shapes;
      way = rw (first_same q.asked.window o, second_same q.asked.window o) q.asked.way;
    };
    lower = rw (first_same q.asked.window o, second_same q.asked.window o) q.lower;
    expand = rw (first_same q.asked.window o, second_same q.asked.window o) q.expand;
    list_none = rw (first_same q.asked.window o, second_same q.asked.window o) q.list_none;
  }

module _ {d : ℕ} {s : List ℤ} (q : BothAsked d s) where
  abbrev window : Window s
  window = q.asked.window

  -- one rank
  pub ranks : rank_at left s ≡ rank_at right s
  ranks = sym (rank_is window.first) ∙ ap length (same_true q.asked.shapes) ∙ rank_is window.second

  -- both can be lowered
  pub free : Free (layout_at left s) d × Free (layout_at right s) d
  free = both_free d (way_told (layout_at left s) (layout_at right s) (sym q.asked.way) refl) q.expand q.list_none

  pub lower_first : d ≤ dense_at left s
  unfolding layout_at
  lower_first = omega (arith, q.lower)

  pub lower_second : d ≤ dense_at right s
  unfolding layout_at
  lower_second = omega (arith, q.lower)

  pub lower_rank : d ≤ rank_at left s
  lower_rank = let l = lower_first in omega (arith, dense_most window.first)

  -- the rows of each can be lowered
  pub ask_first : LowerAsked left (spare + rows_from) d s
  unfolding layout_at
  ask_first = record {
    holds = window.first;
    room = omega (arith, window.room);
    apart = inl (omega arith);
    lower = lower_first;
    is_not_dense = free.0.is_not_dense;
    expands = free.0.expands;
    lists_none = free.0.lists_none;
  }

  ask_other : LowerAsked right (other_spare + rows_from) d s
  unfolding layout_at
  ask_other = record {
    holds = window.second;
    room = omega (arith, window.room);
    apart = inl (omega arith);
    lower = lower_second;
    is_not_dense = free.1.is_not_dense;
    expands = free.1.expands;
    lists_none = free.1.lists_none;
  }

-- ---- the rows of one after the other

module _ {d : ℕ} {s : List ℤ} (q : BothAsked d s) where
  narrow : rank_at left s - d ≤ 4
  narrow = omega (arith, rank_most (window q).first)

  module _ {t : List ℤ} {r : Bool} (p : Listed (spare + rows_from) (rank_at left s - d) (lowered (layout_at left s) d).rows s t r) where
    first_only : Only spare window_size s t
    first_only = let n = narrow in only_wider p.only spare window_size (omega arith) (omega arith)

    first_wide : Only target window_size s t
    first_wide = only_wider first_only target window_size (omega arith) (omega arith)

    -- too many of the first
    pub first_stop : r ≡ false → BothLowered d s t false
    first_stop f = record {
      verdict = rw (sym p.verdict ∙ f);
      first = λ z. absurd (true_not_false z refl);
      second = λ z. absurd (true_not_false z refl);
      pair = λ z. absurd (true_not_false z refl);
      only = first_only;
    }

    pub ask_second : LowerAsked right (other_spare + rows_from) d t
    ask_second = ask_other (both_still q first_wide)

    -- those of the second increase as they did
    pub second_rising : Rising s → Increasing (layout_at right t).rows
    second_rising h = rw (second_same (window q) first_wide) h.second

    -- those of both
    module _ (f : r ≡ true) {u : List ℤ} {v : Bool} (p' : Listed (other_spare + rows_from) (rank_at right t - d) (lowered (layout_at right t) d).rows t u v) where
      other : Listed (other_spare + rows_from) (rank_at left s - d) (lowered (layout_at right s) d).rows t u v
      other = rw (second_same (window q) first_wide, second_rank (window q) first_wide, ← ranks q) at p'

      both_only : Only spare window_size s u
      both_only = let n = narrow in only_then first_only (only_wider other.only spare window_size (omega arith) (omega arith))

      first_ready : Ready (spare + rows_from) (rank_at left s - d) u
      first_ready = let n = narrow in ready_outside other.only (p.ready f) (inl (omega arith))

      pub both_lowered : BothLowered d s u v
      both_lowered =
          let n = narrow in
          record {
            verdict = rw (sym p.verdict ∙ f) other.verdict;
            first = λ _. table_outside other.only (spare + rows_from) (rank_at left s - d) (p.ready f).fits.few (inl (omega arith)) ∙ p.table f;
            second = other.table;
            pair = λ g. record {
              narrow = omega arith;
              first = first_ready;
              second = other.ready g;
              target = omega (arith, (window q).room, both_only.size);
              apart_first = inr (omega arith);
              apart_second = inr (omega arith);
            };
            only = both_only;
          }
