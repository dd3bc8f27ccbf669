-- `other_of` and `with_dense`: the other one than a dense one, its head and rows copied, and the dependencies of both that it holds.
-- Assumes nothing.
use Rattle.std.specs.Prelude.{Err, Result, ⊤}
use Rattle.rules.specs.declared.Refusal.{Refusal}
use mathlib.Core.Path.{◌≡◌, refl, sym, ap, ◌∙◌}
use mathlib.Core.Bool.{Bool, true, false}
use mathlib.Core.List.{List, []}
use mathlib.Core.Logic.{◌⊎◌, inl}
use Prim.Native.Nat.{ℕ, ◌+◌, ◌*◌, ◌≤◌, ◌<◌}
use native.Mathlib.Nat.{add-zero, mul-le-mul_right}
use native.Mathlib.Omega.{arith}
use borrow.Author.Tests.{le-leb}
use lib.IntN.{ℤ}
use lib.ListN.{length, get_or}
use Rattle.rules.specs.declared.Refusal.TheVariants.{DenseAxes}
use Rattle.rules.specs.Limits.{entry_limit}
use Rattle.rules.specs.Lists.{if}
use Rattle.rules.specs.Buffers.{part, put}
use Rattle.rules.specs.RowsInOrder.{merge, increasing}
use Rattle.rules.specs.Refusals.{given, refused, number_of}
use Rattle.rules.specs.Layout.{Layout, rank, is_dense, few, with_deps}
use Rattle.rules.specs.Dependencies.{held, filter_deps}
use Rattle.rules.specs.Pairs.{few_of}
use Rattle.rules.specs.Intersect.{filtered_by, bars_merged, with_dense, intersect}
use Rattle.rules.proofs.Same.{same_true}
use Rattle.rules.proofs.Buffers.{length_part, part_put_all}
use Rattle.rules.proofs.Sets.{increasing_true}
use Rattle.rules.proofs.IntersectHolds.{intersect_sound}
use Rattle.cells.specs.View.{view}
use Rattle.cells.proofs.View.{view_part}
use Rattle.tables.specs.Tables.{table_at, Only, Ready}
use Rattle.tables.proofs.Only.{only_then, only_wider, only_put}
use Rattle.parts.specs.Parts.{part_size, extents_from, rows_from, states_from, inputs_from, window_size, left, right, target, kind_at, dense_at, rank_at, width_at, layout_at, Holds, Window}
use Rattle.parts.proofs.Copied.{number_copied, part_copied, table_copied}
use Rattle.parts.proofs.Holds.{rank_most, rank_is, dense_most, rows_fit}
use Rattle.lowering.specs.Lowering.{lowered_deps}
use Rattle.filtering.specs.Filtering.{filter_at}
use Rattle.combine.specs.declared.window.Way.TheVariants.{Dense}
use Rattle.combine.specs.Window.{made_step, Combined}
use Rattle.combine.proofs.Ways.{Told, told_dense, way_told}
use Rattle.combine.proofs.Rooms.{first_same, second_same, first_rank, second_rank, window_still}
use Rattle.combine.proofs.Combining.{Makes, combine_refused, combine_told}
use Rattle.intersecting.specs.Intersecting.{OtherAsked, MergeAsked, lowered_list, merged_list, DepsMerged, other_of, DenseAsked}
use Rattle.intersecting.proofs.Intersects.{left_dense, right_dense, dense_barred, dense_given, intersect_low}
use Rattle.intersecting.proofs.Meeting.{keeps_axes}
use Rattle.intersecting.proofs.MergedLists.{parts_same}
use Rattle.intersecting.proofs.CommonRows.{fewer}

pub makes_intersect : Makes intersect
makes_intersect = record { sound = intersect_sound; low = intersect_low }

-- ---- the other one

module _ {dense t : Bool} (t-is : t ≡ dense) where
  pub other_right : t ≡ true → right ≡ if dense right left
  other_right e = rw (← t-is, e)

  pub other_left : t ≡ false → left ≡ if dense right left
  other_left e = rw (← t-is, e)

-- a list of a layout as it stands
plain_states : (at n : ℕ) (s : List ℤ) → lowered_list at n states_from s ≡ lowered_deps (layout_at at s) n (layout_at at s).states
unfolding layout_at
plain_states at n s = refl

plain_inputs : (at n : ℕ) (s : List ℤ) → lowered_list at n inputs_from s ≡ lowered_deps (layout_at at s) n (layout_at at s).inputs
unfolding layout_at
plain_inputs at n s = refl

-- a diagonal has an axis
diagonal_rank : {at : ℕ} {s : List ℤ} → Holds at s → kind_at at s ≡ 1 → 1 ≤ rank_at at s
unfolding layout_at
diagonal_rank h k = omega (arith, h.sound.form.diagonal_wide k, rank_is h)

-- a layout filters by its head and its rows
bare_filter : (l : Layout) (deps : List (List ℕ)) → filter_deps (with_deps [] [] l) deps ≡ filter_deps l deps
unfolding filter_deps held
bare_filter l deps = refl

-- what is known of it
pub record Other (o : ℕ) (s : List ℤ) : Type 0 where
  pub holds : Holds o s
  pub ordered : increasing (layout_at o s).rows ≡ true
  pub before : o + part_size ≤ target
  pub left_rank : rank_at left s ≡ rank_at o s
  pub right_rank : rank_at right s ≡ rank_at o s
  pub rule : intersect (layout_at left s) (layout_at right s) ≡ with_dense (layout_at left s) (layout_at right s) (layout_at o s)

module _ {s : List ℤ} (q : DenseAsked s) where
  abbrev a : Layout
  a = layout_at left s

  abbrev b : Layout
  b = layout_at right s

  abbrev window : Window s
  window = q.ordered.window

  ranks : rank_at left s ≡ rank_at right s
  ranks = sym (rank_is window.first) ∙ ap length (same_true q.shapes) ∙ rank_is window.second

  other_is : {o : ℕ} → o ≡ other_of a → Other o s
  other_is {o} e = go (is_dense a) refl (way_told a b (sym q.way) refl)
    where
      go : (t : Bool) → is_dense a ≡ t → Told a b Dense → Other o s
      go true f w =
          let is : o ≡ right = e ∙ rw f in
          rw is
          (record { holds = window.second; ordered = q.ordered.right_ordered; before = omega arith; left_rank = ranks; right_rank = refl; rule = left_dense a b q.shapes f })
      go false f (told_dense g) =
          let is : o ≡ left = e ∙ rw f in
          rw is
          (record { holds = window.first; ordered = q.ordered.left_ordered; before = omega arith; left_rank = refl; right_rank = sym ranks; rule = right_dense a b q.shapes f (rw f at g) })

  module _ {o : ℕ} (o_is : o ≡ other_of a) where
    known : Other o s
    known = other_is o_is

    abbrev other : Layout
    other = layout_at o s

    pub ask_bars : OtherAsked o s
    ask_bars = record { window = window; ranks = ranks; holds = known.holds }

    left_long : rank a ≡ rank other
    left_long = rank_is window.first ∙ known.left_rank ∙ sym (rank_is known.holds)

    right_long : rank b ≡ rank other
    right_long = rank_is window.second ∙ known.right_rank ∙ sym (rank_is known.holds)

    module _ {t : Bool} (t-is : t ≡ bars_merged a b other) where
      -- a dependency meets its dense axes
      pub barred : t ≡ true → Combined intersect s s (Err DenseAxes)
      barred f =
          combine_refused window DenseAxes
          (unfold number_of in (known.rule ∙ dense_barred window.first.sound window.second.sound known.holds.sound left_long right_long (sym t-is ∙ f)))

      module _ (f : t ≡ false) where
        answer : intersect a b ≡ if (few_of (filtered_by a b other)) (given (filtered_by a b other)) (refused 13)
        answer = known.rule ∙ dense_given window.first.sound window.second.sound known.holds.sound left_long right_long (sym t-is ∙ f)

    -- ---- its head and its rows are copied

    pub ask_move : ((o + 520 ≤ length s) × (target + 520 ≤ length s)) × ((o + 520 ≤ target) ⊎ (target + 520 ≤ o))
    ask_move = let k = known.before in ((omega (arith, window.room), omega (arith, window.room)), inl (omega arith))

    module _ {u : List ℤ} (e : u ≡ put target (part o 520 s) s) where
      copy_length : length (part o 520 s) ≡ 520
      copy_length = length_part o 520 s ask_move.0.0

      copied : part target 520 u ≡ part o 520 s
      copied =
          let room : target ≤ length s = omega (arith, window.room) in
          rw e (rw copy_length at (part_put_all target (part o 520 s) s room))

      copy_only : Only target (target + 520) s u
      copy_only = rw e (rw copy_length at (only_put target (part o 520 s) s (rw copy_length ask_move.0.1)))

      copy_wide : Only target window_size s u
      copy_wide = only_wider copy_only target window_size (omega arith) (omega arith)

      number_is : (k : ℕ) → k < 520 → get_or (view u) (target + k) 0 ≡ get_or (view s) (o + k) 0
      number_is = number_copied target o 520 s u copied

      kind_is : kind_at target u ≡ kind_at o s
      kind_is = simp add-zero at (number_is 0 (omega arith))

      dense_is : dense_at target u ≡ dense_at o s
      dense_is = number_is 1 (omega arith)

      rank_there : rank_at target u ≡ rank_at o s
      rank_there = number_is 2 (omega arith)

      shape_is : part (target + extents_from) (rank_at o s) (view u) ≡ part (o + extents_from) (rank_at o s) (view s)
      shape_is =
          let m = rank_most known.holds in
          sym (view_part (target + extents_from) (rank_at o s) u) ∙ ap view (part_copied target o 520 s u copied 3 (rank_at o s) (omega arith)) ∙ view_part (o + extents_from) (rank_at o s) s

      rows_are : table_at (target + rows_from) (width_at o s) u ≡ table_at (o + rows_from) (width_at o s) s
      unfolding table_at
      rows_are =
          let m = rank_most known.holds in
          let n : ℕ = get_or (view s) (o + rows_from) 0 in
          let small : n * width_at o s ≤ 128 * width_at o s = mul-le-mul_right (width_at o s) (rows_fit known.holds).few in
          table_copied (target + rows_from) (o + rows_from) (1 + n * width_at o s) s u (part_copied target o 520 s u copied 7 (1 + n * width_at o s) (omega arith)) (width_at o s) n refl (omega arith)

      filter_is : filter_at target u ≡ filter_at o s
      unfolding layout_at
      filter_is = rw (kind_is, dense_is, rank_there, shape_is, rows_are)

      rows_ready : Ready (target + rows_from) (width_at o s) u
      unfolding layout_at
      rows_ready =
          let m = rank_most known.holds in
          let fit = rows_fit known.holds in
          record {
            fits = record {
              room = omega (arith, window.room, copy_wide.size);
              few = rw (number_is 7 (omega arith)) fit.few;
              low = rw rows_are fit.low;
            };
            increasing = rw rows_are (increasing_true (table_at (o + rows_from) (width_at o s) s) known.ordered);
          }

      pub ask_merge : MergeAsked u
      unfolding layout_at
      ask_merge = record {
        window = window_still window copy_wide;
        ranks = first_rank window copy_wide ∙ ranks ∙ sym (second_rank window copy_wide);
        filters = record {
          inside = omega (arith, window.room, copy_wide.size);
          rank_most = rw rank_there (rank_most known.holds);
          dense_most = rw (rank_there, dense_is) (dense_most known.holds);
          rows = rw (rank_there, dense_is) rows_ready;
          diagonal_wide = λ k. rw rank_there (diagonal_rank known.holds (sym kind_is ∙ k));
        };
        target_rank = rank_there ∙ sym known.left_rank ∙ sym (first_rank window copy_wide);
      }

      -- ---- dependencies are not lowered

      module _ {n : ℕ} (n-is : n ≡ rank_at left s) where
        own_left : {deps : List (List ℕ)} → lowered_deps a n deps ≡ deps
        own_left = rw (keeps_axes window.first n (omega arith))

        own_right : {deps : List (List ℕ)} → lowered_deps b n deps ≡ deps
        own_right = rw (keeps_axes window.second n (omega (arith, ranks)))

        left_states : lowered_list left n states_from u ≡ a.states
        left_states = plain_states left n u ∙ rw (first_same window copy_wide) own_left

        left_inputs : lowered_list left n inputs_from u ≡ a.inputs
        left_inputs = plain_inputs left n u ∙ rw (first_same window copy_wide) own_left

        right_states : lowered_list right n states_from u ≡ b.states
        right_states = plain_states right n u ∙ rw (second_same window copy_wide) own_right

        right_inputs : lowered_list right n inputs_from u ≡ b.inputs
        right_inputs = plain_inputs right n u ∙ rw (second_same window copy_wide) own_right

        states_are : merged_list n states_from u ≡ (filtered_by a b other).states
        states_are = rw (filter_is, left_states, right_states) (bare_filter other (merge a.states b.states))

        inputs_are : merged_list n inputs_from u ≡ (filtered_by a b other).inputs
        inputs_are = rw (filter_is, left_inputs, right_inputs) (bare_filter other (merge a.inputs b.inputs))

        module _ {v : List ℤ} {r : Bool} (m : DepsMerged n u v r) where
          verdict_is : r ≡ few_of (filtered_by a b other)
          verdict_is =
              let x = window.first.sound.sizes in
              let y = window.second.sound.sizes in
              m.verdict
              ∙ fewer (ap few left_states ∙ le-leb (length a.states) entry_limit x.states_few) (ap few right_states ∙ le-leb (length b.states) entry_limit y.states_few) (ap few states_are)
              (ap few left_inputs ∙ le-leb (length a.inputs) entry_limit x.inputs_few) (ap few right_inputs ∙ le-leb (length b.inputs) entry_limit y.inputs_few) (ap few inputs_are)
              ∙ sym (rw (le-leb (length other.rows) entry_limit known.holds.sound.sizes.rows_few))

          layout_is : r ≡ true → layout_at target v ≡ filtered_by a b other
          layout_is g = m.layout g ∙ parts_same states_are inputs_are filter_is

          pub merged : {t : Bool} → t ≡ bars_merged a b other → t ≡ false → {step : (Result ⊤ Refusal)} → step ≡ made_step r → Combined intersect s v step
          merged t-is f p =
              rw p
              (combine_told window makes_intersect (answer t-is f ∙ rw (← verdict_is)) layout_is (only_then copy_wide (only_wider m.only target window_size (omega arith) (omega arith))))
