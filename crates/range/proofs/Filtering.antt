-- `filter_into`: the target is loaded, and the entries of the range take the place of its dependencies. Assumes nothing.
use Rattle.std.specs.Prelude.{Err, Ok}
use mathlib.Core.Path.{◌≡◌, refl, sym, ap, ◌∙◌}
use mathlib.Core.Bool.{Bool, true, false, not, ◌&&◌}
use mathlib.Core.List.{List}
use mathlib.Core.Logic.{inl}
use Prim.Native.Nat.{ℕ, ◌+◌, ◌≤◌}
use native.Mathlib.Omega.{arith}
use borrow.Author.Tests.{not-true, not-false}
use lib.IntN.{ℤ}
use lib.ListN.{length}
use Rattle.rules.specs.declared.Head.{Head}
use Rattle.rules.specs.declared.Refusal.TheVariants.{Unjoinable, MadeUnsound}
use Rattle.rules.specs.RowsInOrder.{increasing}
use Rattle.rules.specs.Refusals.{number_of}
use Rattle.rules.specs.Layout.{Layout, width, with_deps}
use Rattle.rules.specs.Record.{layout_in}
use Rattle.rules.specs.FilterDepsFrom.{cannot_cut, cut_deps, filter_deps_from}
use Rattle.rules.proofs.Ranging.{cut_states, cut_inputs, filter_bars, filter_breaks, cut_ranks, filtered_sound, filter_given, filtered_low}
use Rattle.tables.specs.Rows.{row_at, rows_at}
use Rattle.tables.specs.Tables.{Only}
use Rattle.tables.proofs.Only.{only_then, only_wider}
use Rattle.records.specs.Sound.{SoundRecord}
use Rattle.records.proofs.Layouts.{has_states, has_inputs}
use Rattle.records.proofs.SoundRecords.{lies, layout_sound, layout_shown}
use Rattle.parts.specs.Parts.{part_size, rows_from, states_from, inputs_from, layout_at, Holds}
use Rattle.parts.specs.Answers.{Loaded, Says}
use Rattle.parts.proofs.Holds.{shape_length, rows_few}
use Rattle.tables.proofs.Tables.{table_length}
use Rattle.records.proofs.Shown.{rank_shown, deps_low}
use Rattle.parts.proofs.Saying.{says_refused}
use Rattle.moving.specs.Sections.{HeadIs, TableIs}
use Rattle.moving.proofs.Sections.{head_stays, table_stays, assembled, says_made}
use Rattle.range.specs.declared.Cut.{Cut}
use Rattle.range.specs.Cutting.{cut_by, uncuttable, CutAlong, CutAsked, DepsCut}

-- ---- what stands in a part that was loaded

module _ {t : List ℤ} (h : Holds 0 t) where
  head_there : HeadIs (layout_at 0 t).kind (layout_at 0 t).dense (layout_at 0 t).shape t
  unfolding layout_at
  head_there = record { kind_is = refl; dense_is = refl; rank_is = sym (shape_length h); shape_is = rw (shape_length h) refl }

  rows_there_lem : TableIs rows_from (width (layout_at 0 t)) (layout_at 0 t).rows t
  unfolding layout_at
  rows_there_lem = record { rows_are = rw (shape_length h) refl; few = rw table_length (rows_few h) }

-- ---- the answer

module _ {x y : Head} {p q : List ℤ} (target : SoundRecord x p) (source : SoundRecord y q) (start end : ℕ) where
  -- the source cannot be cut
  pub cannot_says : {t : List ℤ} → uncuttable x.rank (layout_in q) ≡ true → Says (filter_deps_from (layout_in p) (layout_in q) start end) 0 t (Err Unjoinable)
  unfolding number_of
  cannot_says e = says_refused Unjoinable 0 _ (filter_bars (layout_in p) (layout_in q) start end (rw (rank_shown target) e))

  -- it can
  module _ {axis : ℕ} (a : CutAlong x.rank (layout_in q) axis) where
    abbrev cut : Cut
    cut = record { axis = axis; start = start; end = end; rank = x.rank }

    can : cannot_cut (layout_in p) (layout_in q) ≡ false
    can = rw (rank_shown target) a.can_cut

    shorter : x.rank ≤ y.rank
    shorter = omega (arith, cut_ranks (layout_in p) (layout_in q) start end can, rank_shown target, rank_shown source)

    -- what is asked for its states and its inputs
    module _ {t : List ℤ} (room : part_size ≤ length t) where
      pub ask_states : CutAsked y.rank y.states cut q states_from t
      ask_states = record {
        has = has_states source.readable;
        few = (lies source).states_few;
        shape_lies_in = omega (arith, lies source);
        rank_few = (lies source).rank_few;
        shorter = shorter;
        axis_in = omega (arith, a.within, rank_shown source);
        room = omega (arith, (lies target).rank_few);
      }

      pub ask_inputs : CutAsked y.rank y.inputs cut q inputs_from t
      ask_inputs = record {
        has = has_inputs source.readable;
        few = (lies source).inputs_few;
        shape_lies_in = omega (arith, lies source);
        rank_few = (lies source).rank_few;
        shorter = shorter;
        axis_in = omega (arith, a.within, rank_shown source);
        room = omega (arith, (lies target).rank_few);
      }

    -- what is left of them
    abbrev states : List (List ℕ)
    states = cut_states (layout_in p) (layout_in q) start end

    abbrev inputs : List (List ℕ)
    inputs = cut_inputs (layout_in p) (layout_in q) start end

    states_are : cut_by cut (row_at 3 y.rank q) (rows_at y.states.first (y.rank + 1) y.states.count q) ≡ states
    unfolding cut_by cut_deps
    states_are = rw (a.is, ← rank_shown target, layout_shown source) refl

    inputs_are : cut_by cut (row_at 3 y.rank q) (rows_at y.inputs.first (y.rank + 1) y.inputs.count q) ≡ inputs
    unfolding cut_by cut_deps
    inputs_are = rw (a.is, ← rank_shown target, layout_shown source) refl

    -- they meet or fall out of order
    broken : {t : List ℤ} → increasing states && increasing inputs ≡ false → Says (filter_deps_from (layout_in p) (layout_in q) start end) 0 t (Err MadeUnsound)
    unfolding number_of
    broken e = says_refused MadeUnsound 0 _ (filter_breaks (layout_in p) (layout_in q) start end can e)

    module _ {t u : List ℤ} {b : Bool} (loaded : Loaded p t) (first : DepsCut y.rank y.states cut q states_from t u b) where
      states_told : increasing states ≡ b
      states_told = sym (first.told ∙ ap increasing states_are)

      pub states_break : not b ≡ true → Says (filter_deps_from (layout_in p) (layout_in q) start end) 0 u (Err MadeUnsound)
      states_break e = broken (rw (states_told, not-true b e))

      module _ (fine : not b ≡ false) {v : List ℤ} {d : Bool} (second : DepsCut y.rank y.inputs cut q inputs_from u v d) where
        inputs_told : increasing inputs ≡ d
        inputs_told = sym (second.told ∙ ap increasing inputs_are)

        pub inputs_break : not d ≡ true → Says (filter_deps_from (layout_in p) (layout_in q) start end) 0 v (Err MadeUnsound)
        inputs_break e = broken (rw (states_told, not-false b fine, inputs_told, not-true d e))

        -- the target with them
        abbrev made : Layout
        made = with_deps states inputs (layout_in p)

        few : x.rank ≤ 4
        few = (lies target).rank_few

        only : Only states_from part_size t v
        only =
            only_then (only_wider first.made.only states_from part_size (omega arith) (omega (arith, few)))
            (only_wider second.made.only states_from part_size (omega arith) (omega (arith, few)))

        there : layout_at 0 v ≡ made
        there =
            assembled {l = made}
            (head_stays only (omega (arith, few, rank_shown target)) (omega arith) (rw loaded.layout at (head_there loaded.holds)))
            (table_stays only (inl (omega (arith, few, rank_shown target))) (rw loaded.layout at (rows_there_lem loaded.holds)))
            (table_stays second.made.only (inl (omega (arith, few, rank_shown target))) (rw (states_are, ← rank_shown target) at first.made.table))
            (rw (inputs_are, ← rank_shown target) at second.made.table)

        pub filtered_says : not d ≡ false → Says (filter_deps_from (layout_in p) (layout_in q) start end) 0 v (Ok tt)
        filtered_says e =
            let order : increasing states && increasing inputs ≡ true = rw (states_told, not-false b fine, inputs_told, not-false d e) in
            says_made (filter_given (layout_in p) (layout_in q) start end (layout_sound target) (layout_sound source) can order) there
            (filtered_sound (layout_in p) (layout_in q) start end (layout_sound target) (layout_sound source) can order)
            (filtered_low (layout_in p) (layout_in q) start end (deps_low source))
            (omega (arith, loaded.holds.inside, only.size))
