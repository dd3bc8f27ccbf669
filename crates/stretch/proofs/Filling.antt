-- `fill`: the tables of the part are those of the stretched layout. Assumes nothing.
use mathlib.Core.Path.{◌≡◌, refl, sym, ap, ◌∙◌}
use mathlib.Core.Bool.{Bool, true, false}
use mathlib.Core.List.{List}
use mathlib.Core.Logic.{inl}
use Prim.Native.Nat.{ℕ, ◌+◌}
use native.Mathlib.Omega.{arith}
use lib.IntN.{ℤ}
use lib.ListN.{length}
use Rattle.rules.specs.declared.Head.{Head}
use Rattle.rules.specs.declared.Mode.{Mode}
use Rattle.rules.specs.RowsInOrder.{sorted, sorted_few}
use Rattle.rules.specs.Layout.{Layout, rank, width, few}
use Rattle.rules.specs.Soundness.{Sound}
use Rattle.rules.specs.Record.{layout_in}
use Rattle.rules.specs.Stretching.{stretch_rows, stretch_deps}
use Rattle.rules.proofs.Same.{true_not_false}
use Rattle.rules.proofs.Few.{few_sorted, sorted_few_lem}
use Rattle.rules.proofs.Low.{rows_low}
use Rattle.rules.proofs.Stretching.{Stretches}
use Rattle.tables.specs.Rows.{row_at}
use Rattle.tables.specs.Tables.{table_at, Only, Listed}
use Rattle.tables.proofs.Rows.{row_length}
use Rattle.tables.proofs.Only.{only_then, only_wider, table_outside}
use Rattle.records.specs.Sound.{SoundRecord}
use Rattle.records.proofs.Layouts.{seen, axes, rows_room, has_states, has_inputs}
use Rattle.records.proofs.SoundRecords.{lies, layout_sound, layout_shown}
use Rattle.parts.specs.Parts.{part_size, rows_from, states_from, inputs_from}
use Rattle.stretch.specs.Spread.{extents_in, SpreadIs}
use Rattle.stretch.specs.Tables.{DepsAsked, RowsAsked, moved_rows, yielded}
use Rattle.stretch.specs.Layouts.{FillAsked, TablesMade}
use Rattle.stretch.proofs.ListedRows.{row_spreads, listed_rows}
use Rattle.stretch.proofs.Within.{values_within}

-- ---- a list that was gathered until there were too many

module _ {to w : ℕ} {rows : List (List ℕ)} {s t : List ℤ} {r : Bool} (p : Listed to w rows s t r) where
  few_verdict : r ≡ few (sorted_few rows)
  few_verdict = p.verdict ∙ sym (few_sorted rows)

  few_table : r ≡ true → table_at to w t ≡ sorted_few rows
  few_table e = p.table e ∙ sym (sorted_few_lem rows (sym p.verdict ∙ e))

-- ---- the record

module _ {h : Head} {src : List ℤ} {at n : ℕ} {shape s : List ℤ} (a : FillAsked h src at n shape s) where
  abbrev source : SoundRecord h src
  source = a.asked.source

  abbrev l : Layout
  l = seen h src

  abbrev new : List ℕ
  new = row_at at n shape

  sound : Sound l
  sound = rw (layout_shown source) at (layout_sound source)

  new_length : length new ≡ n
  new_length = row_length at n shape a.asked.shapes.new_in

  old_length : rank l ≡ h.rank
  old_length = row_length 3 h.rank src a.asked.shapes.old_in

  width_is : width l ≡ h.width
  width_is = omega (arith, old_length, axes source.readable)

  -- the layout stretches to the shape
  pub stretches : Stretches l new
  stretches = record { fits = a.fits; room = omega (arith, old_length, new_length, axes source.readable, a.wide) }

  -- ---- rows

  module _ (extents : List ℤ) (long : length extents ≡ 5) (is : SpreadIs (extents_in h.rank src) new h.width extents) where
    pub ask_rows : RowsAsked h.rows.first h.rows.count h.width src extents s
    ask_rows =
        let b = lies source in
        record {
          room = rows_room source.readable;
          few = b.rows_few;
          narrow = omega (arith, b.narrow, b.rank_few);
          rows_small = λ r m k i. omega (arith, rows_low sound r m k);
          extents_are = record {
            room = omega (arith, b.narrow, b.rank_few);
            within = rw is.values (values_within (rw width_is at (row_spreads sound.form stretches)) a.asked.shapes.within);
          };
          target = omega (arith, b.narrow, b.rank_few, a.room);
        }

    rows_are : sorted (moved_rows h.rows.first h.rows.count h.width src (row_at 0 h.width extents)) ≡ stretch_rows l new
    rows_are = rw is.values (rw width_is at (listed_rows sound.form stretches))

    module _ {t : List ℤ} {r : Bool} (p : Listed rows_from h.width (moved_rows h.rows.first h.rows.count h.width src (row_at 0 h.width extents)) s t r) where
      rows_verdict : r ≡ few (stretch_rows l new)
      rows_verdict = rw rows_are at p.verdict

      rows_table : r ≡ true → table_at rows_from (width l) t ≡ stretch_rows l new
      rows_table e = rw width_is (rw rows_are at (p.table e))

      rows_only : Only rows_from states_from s t
      rows_only = let b = lies source in only_wider p.only rows_from states_from (omega arith) (omega (arith, b.narrow, b.rank_few))

      -- they are too many
      pub rows_over : (mode : Mode) → r ≡ false → TablesMade mode (layout_in src) new s t false
      rows_over mode e =
          rw (layout_shown source)
          (record {
            verdict = rw (sym rows_verdict ∙ e);
            rows = λ x. absurd (true_not_false x refl);
            states = λ x. absurd (true_not_false x refl);
            inputs = λ x. absurd (true_not_false x refl);
            only = only_wider rows_only rows_from part_size (omega arith) (omega arith);
          })

      -- ---- dependencies on states

      module _ (e : r ≡ true) where
        pub ask_states : DepsAsked h.states.first h.states.count h.rank src at n shape states_from t
        ask_states = record {
          rows = has_states source.readable;
          few = (lies source).states_few;
          shapes = a.asked.shapes;
          room = omega (arith, p.only.size, a.room, a.asked.shapes.new_few);
        }

        module _ (mode : Mode) {u : List ℤ} {q : Bool} (d : Listed states_from (n + 1) (yielded mode h.states.first h.states.count h.rank src new) t u q) where
          states_verdict : q ≡ few (stretch_deps mode l.shape new l.states)
          unfolding stretch_deps
          states_verdict = few_verdict d

          states_table : q ≡ true → table_at states_from (length new + 1) u ≡ stretch_deps mode l.shape new l.states
          unfolding stretch_deps
          states_table f = ap (λ (k : ℕ). table_at states_from (k + 1) u) new_length ∙ few_table d f

          states_only : Only states_from inputs_from t u
          states_only = only_wider d.only states_from inputs_from (omega arith) (omega (arith, a.asked.shapes.new_few))

          both_only : Only rows_from inputs_from s u
          both_only = only_then (only_wider rows_only rows_from inputs_from (omega arith) (omega arith)) (only_wider states_only rows_from inputs_from (omega arith) (omega arith))

          -- they are too many
          pub states_over : q ≡ false → TablesMade mode (layout_in src) new s u false
          states_over f =
              rw (layout_shown source)
              (record {
                verdict = rw (sym rows_verdict ∙ e, sym states_verdict ∙ f);
                rows = λ x. absurd (true_not_false x refl);
                states = λ x. absurd (true_not_false x refl);
                inputs = λ x. absurd (true_not_false x refl);
                only = only_wider both_only rows_from part_size (omega arith) (omega arith);
              })

          -- ---- dependencies on inputs

          module _ (f : q ≡ true) where
            pub ask_inputs : DepsAsked h.inputs.first h.inputs.count h.rank src at n shape inputs_from u
            ask_inputs = record {
              rows = has_inputs source.readable;
              few = (lies source).inputs_few;
              shapes = a.asked.shapes;
              room = omega (arith, both_only.size, a.room, a.asked.shapes.new_few);
            }

            module _ {v : List ℤ} {z : Bool} (i : Listed inputs_from (n + 1) (yielded mode h.inputs.first h.inputs.count h.rank src new) u v z) where
              inputs_verdict : z ≡ few (stretch_deps mode l.shape new l.inputs)
              unfolding stretch_deps
              inputs_verdict = few_verdict i

              inputs_table : z ≡ true → table_at inputs_from (length new + 1) v ≡ stretch_deps mode l.shape new l.inputs
              unfolding stretch_deps
              inputs_table g = ap (λ (k : ℕ). table_at inputs_from (k + 1) v) new_length ∙ few_table i g

              inputs_only : Only inputs_from part_size u v
              inputs_only = only_wider i.only inputs_from part_size (omega arith) (omega (arith, a.asked.shapes.new_few))

              later_only : Only states_from part_size t v
              later_only = only_then (only_wider states_only states_from part_size (omega arith) (omega arith)) (only_wider inputs_only states_from part_size (omega arith) (omega arith))

              rows_stay : table_at rows_from (width l) v ≡ table_at rows_from (width l) t
              rows_stay =
                  let b = lies source in
                  rw width_is
                  (table_outside later_only rows_from h.width (p.ready e).fits.few (inl (omega (arith, b.narrow, b.rank_few))))

              states_stay : table_at states_from (length new + 1) v ≡ table_at states_from (length new + 1) u
              states_stay =
                  rw new_length
                  (table_outside inputs_only states_from (n + 1) (d.ready f).fits.few (inl (omega (arith, a.asked.shapes.new_few))))

              -- all three tables
              pub tables_made : TablesMade mode (layout_in src) new s v z
              tables_made =
                  rw (layout_shown source)
                  (record {
                    verdict = rw (sym rows_verdict ∙ e, sym states_verdict ∙ f) inputs_verdict;
                    rows = λ x. rows_stay ∙ rows_table e;
                    states = λ x. states_stay ∙ states_table f;
                    inputs = inputs_table;
                    only = only_then (only_wider both_only rows_from part_size (omega arith) (omega arith)) (only_wider inputs_only rows_from part_size (omega arith) (omega arith));
                  })
