-- `join_rows` and `join_layouts`: the rows of both, lowered and merged, and then completed to a layout. Assumes nothing.
use mathlib.Core.Path.{◌≡◌, refl, sym, ap, ◌∙◌}
use mathlib.Core.Bool.{Bool, true, false, ◌&&◌}
use mathlib.Core.List.{List}
use Prim.Native.Nat.{ℕ, ◌+◌, ◌-◌, ◌≤◌}
use native.Mathlib.Omega.{arith}
use borrow.Author.Tests.{leb-true, leb-false, lt-leb}
use lib.IntN.{ℤ}
use lib.ListN.{length}
use Rattle.rules.specs.Limits.{entry_limit}
use Rattle.rules.specs.RowsInOrder.{sorted, merge}
use Rattle.rules.specs.Layout.{few}
use Rattle.rules.specs.Pairs.{lowered}
use Rattle.rules.proofs.Same.{true_not_false}
use Rattle.rules.proofs.Merging.{sorted_left, sorted_right, merge_length_left, merge_length_right}
use Rattle.rules.proofs.Lowering.{Lowered, lowered_is}
use Rattle.tables.specs.Tables.{table_at, Only, PairAsked, Merged}
use Rattle.tables.proofs.Only.{only_then, only_wider}
use Rattle.tables.proofs.Tables.{table_length}
use Rattle.parts.specs.Parts.{rows_from, window_size, left, right, target, spare, other_spare, rank_at, layout_at}
use Rattle.parts.proofs.Holds.{rank_most, dense_most}
use Rattle.combine.specs.Window.{BothAsked, BothLowered, CompleteAsked, merged_states, merged_inputs, Completed, Made}
use Rattle.combine.specs.Uniting.{joined_rows, RowsJoined, united_rows}
use Rattle.combine.proofs.Rooms.{in_target, first_same, second_same, first_rank}
use Rattle.combine.proofs.Both.{both_still, ranks, free, lower_first, lower_rank}

-- ---- the rows of both, merged

module _ {d : ℕ} {s t : List ℤ} {r : Bool} (q : BothAsked d s) (p : BothLowered d s t r) where
  abbrev xs : List (List ℕ)
  xs = (lowered (layout_at left s) d).rows

  abbrev ys : List (List ℕ)
  ys = (lowered (layout_at right s) d).rows

  both_wide : Only target window_size s t
  both_wide = only_wider p.only target window_size (omega arith) (omega arith)

  -- too many rows of one are too many of both
  over_one : few (sorted xs) && few (sorted ys) ≡ false → few (merge xs ys) ≡ false
  over_one e = go (few (sorted xs)) (few (sorted ys)) refl refl e
    where
      go : (a b : Bool) → few (sorted xs) ≡ a → few (sorted ys) ≡ b → a && b ≡ false → few (merge xs ys) ≡ false
      go true true f g h = absurd (true_not_false refl h)
      go true false f g h = lt-leb (length (merge xs ys)) entry_limit (omega (arith, leb-false (length (sorted ys)) entry_limit g, merge_length_right xs ys))
      go false b f g h = lt-leb (length (merge xs ys)) entry_limit (omega (arith, leb-false (length (sorted xs)) entry_limit f, merge_length_left xs ys))

  pub lowered_stop : r ≡ false → RowsJoined d s t false
  lowered_stop f = record {
    verdict = sym (over_one (sym p.verdict ∙ f));
    table = λ z. absurd (true_not_false z refl);
    only = both_wide;
  }

  module _ {n : ℕ} (e : n ≡ rank_at left t) where
    pub lower_there : d ≤ n
    lower_there = omega (arith, lower_rank q, first_rank q.asked.window both_wide)

    width : n - d ≡ rank_at left s - d
    width = rw (e, first_rank q.asked.window both_wide)

    module _ (f : r ≡ true) where
      pub ask_merge : PairAsked (spare + rows_from) (other_spare + rows_from) (target + rows_from) (n - d) t
      ask_merge = rw width (p.pair f)

      both_are : merge (table_at (spare + rows_from) (rank_at left s - d) t) (table_at (other_spare + rows_from) (rank_at left s - d) t) ≡ merge xs ys
      both_are = rw (p.first f, p.second f) (sorted_left xs (sorted ys) ∙ sorted_right xs ys)

      pub rows_joined : {x : List ℤ} {k : Bool} → Merged (spare + rows_from) (other_spare + rows_from) (target + rows_from) (n - d) t x k → RowsJoined d s x k
      rows_joined j =
          let m : rank_at left s - d ≤ 4 = omega (arith, rank_most q.asked.window.first) in
          let i = rw width at j in
          record {
            verdict = i.verdict ∙ ap few both_are;
            table = λ z. i.table z ∙ both_are;
            only = only_then both_wide (only_wider i.only target window_size (omega arith) (omega arith));
          }

-- ---- completed

module _ {d : ℕ} {s t : List ℤ} {r : Bool} (q : BothAsked d s) (j : RowsJoined d s t r) where
  lower_layout : d ≤ (layout_at left s).dense
  lower_layout = omega (arith, q.lower)

  -- too many rows
  pub rows_stop : r ≡ false → Made (united_rows (layout_at left s) (layout_at right s)) s t false
  rows_stop f = record {
    verdict = rw (← q.lower) (rw (sym j.verdict ∙ f));
    layout = λ z. absurd (true_not_false z refl);
    only = j.only;
  }

  module _ (f : r ≡ true) where
    pub ask_complete : CompleteAsked 2 d t
    ask_complete =
        let still = both_still q j.only in
        let low = lower_first still in
        let most = dense_most still.asked.window.first in
        record {
          bare = record {
            deps = record { window = still.asked.window; ranks = ranks still };
            head = record { window = still.asked.window; kind_most = omega arith; dense_most = omega arith };
          };
          rows_few = rw (← table_length (target + rows_from) (rank_at left s - d) t, j.table f) (leb-true (length (joined_rows d s)) entry_limit (sym j.verdict ∙ f));
        }

    pub rows_united : {u : List ℤ} {v : Bool} → Completed 2 d (merged_states t) (merged_inputs t) t u v → Made (united_rows (layout_at left s) (layout_at right s)) s u v
    rows_united c =
        let o = j.only in
        let e = q.lower in
        let x = (free q).0 in
        let w = q.asked.window in
        let low : Lowered (layout_at left s) (lowered (layout_at left s) d) d =
        lowered_is w.first.sound.form x.is_not_dense lower_layout x.expands x.lists_none in
        record {
          verdict = rw (← e, sym j.verdict ∙ f) (rw (first_same w o, second_same w o) at c.verdict);
          layout = λ z. rw (← e, low.dense_is, low.shape_is) (rw (first_rank w o, first_same w o, second_same w o, j.table f) at (c.layout z));
          only = only_then o (in_target c.only);
        }
