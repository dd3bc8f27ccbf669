-- The entries of a list of a block, one by one: `row_of`, `dep_of`, `count_of`, `entry_of` and `moved_entry`. Assumes nothing.
use mathlib.Core.Path.{◌≡◌, refl, sym, ap, ◌∙◌}
use mathlib.Core.Bool.{Bool, true, false}
use mathlib.Core.List.{List, [], map}
use Prim.Native.Nat.{ℕ, ◌+◌, ◌*◌, ◌^◌, ◌<◌, ◌≤◌}
use native.Mathlib.Nat.{zero-add}
use native.Mathlib.Omega.{arith}
use lib.IntN.{ℤ, pos}
use lib.ListN.{length, get_or, replicate, length-map}
use Rattle.rules.specs.declared.Head.{Head}
use Rattle.rules.specs.Lists.{below, product, fit_to}
use Rattle.rules.specs.Buffers.{part, put}
use Rattle.rules.specs.Layout.{Layout, rank, is_dense, is_diagonal}
use Rattle.rules.specs.Record.{layout_in}
use Rattle.rules.specs.Positions.{unravel}
use Rattle.rules.specs.Dependencies.{on_index}
use Rattle.rules.specs.CountsAndForms.{nnz}
use Rattle.rules.specs.Removal.{positions}
use Rattle.rules.specs.Pairs.{expanded}
use Rattle.rules.specs.Concatenate.{rows_of_block}
use Rattle.rules.proofs.Buffers.{part_put_all}
use Rattle.rules.proofs.Ranges.{from_length, from_at, map_at}
use Rattle.rules.proofs.Indices.{positions_length}
use Rattle.rules.proofs.Extents.{extent_limited}
use Rattle.cells.specs.View.{view}
use Rattle.cells.proofs.View.{view_part, view_pos}
use Rattle.tables.specs.Rows.{row_at, rows_at}
use Rattle.tables.proofs.Rows.{row_of, row_ends, length_rows, five, five_row}
use Rattle.axes.specs.Extents.{IndexAsked}
use Rattle.axes.proofs.Indices.{none_zero, unravel_length, unravel_position}
use Rattle.records.specs.Sound.{SoundRecord}
use Rattle.records.proofs.Layouts.{rows_room, has_states, has_inputs}
use Rattle.records.proofs.SoundRecords.{lies, layout_sound, layout_shown}
use Rattle.records.proofs.Shown.{record_shape, rank_shown, width_shown}
use Rattle.lookups.proofs.SoundRecords.{record_extents}
use Rattle.lookups.proofs.Counting.{kind_read, kind_sparse}
use Rattle.entries.specs.declared.entries.Listed.{Listed}
use Rattle.entries.specs.declared.entries.Listed.TheVariants.{Rows, States, Inputs}
use Rattle.entries.specs.Listing.{fitted, listed, row_width, ListAsked, DepAsked}

-- ---- how many rows a block lists

pub rows_count : (l : Layout) → length (rows_of_block l) ≡ nnz l
unfolding nnz expanded
rows_count l = by (is_dense l) (is_diagonal l) refl refl
  where
    by : (p q : Bool) → is_dense l ≡ p → is_diagonal l ≡ q → length (rows_of_block l) ≡ nnz l
    by true q e f = rw e (positions_length l.shape)
    by false true e f = rw (e, f) (rw (length-map, from_length))
    by false false e f = rw (e, f)

-- ---- the rows of a record: `row_of`

module _ {h : Head} {s : List ℤ} (q : SoundRecord h s) where
  module _ {i : ℕ} (inside : i < length (rows_of_block (layout_in s))) {k : ℕ} (e : k ≡ get_or (view s) 0 0) where
    -- an index of a dense block
    module _ (z : k ≡ 0) where
      kind_dense : (layout_in s).kind ≡ 0
      kind_dense = kind_read q e ∙ z

      dense_rows : rows_of_block (layout_in s) ≡ positions (layout_in s).shape
      dense_rows = rw kind_dense

      dense_inside : i < product (layout_in s).shape
      dense_inside = omega (arith, ap length dense_rows, positions_length (layout_in s).shape)

      pub ask_index : {row : List ℤ} → length row ≡ 5 → IndexAsked 3 h.rank s 0 row
      ask_index l =
          let b = lies q in
          record {
            extents = record_extents q;
            nonzero = rw (record_shape q) (none_zero (layout_in s).shape (omega (arith, dense_inside)));
            room = omega (arith, b.rank_few);
          }

      pub is_index : (row : List ℤ) {out : List ℤ} → length row ≡ 5 → out ≡ put 0 (map pos (unravel i (row_at 3 h.rank s))) row →
          row_at 0 (row_width (layout_in s)) out ≡ get_or (rows_of_block (layout_in s)) i []
      is_index row {out} l is =
          let b = lies q in
          let shape : List ℕ = (layout_in s).shape in
          let size : length (map pos (unravel i shape)) ≡ rank (layout_in s) = rw length-map (unravel_length i shape) in
          let made : out ≡ put 0 (map pos (unravel i shape)) row = rw (record_shape q) at is in
          let there : part 0 (rank (layout_in s)) out ≡ map pos (unravel i shape) =
          rw made (rw size at (part_put_all 0 (map pos (unravel i shape)) row (omega (arith, rank_shown q, b.rank_few)))) in
          rw (dense_rows, kind_dense) (sym (view_part 0 (rank (layout_in s)) out) ∙ ap view there ∙ view_pos (unravel i shape) ∙ unravel_position i shape dense_inside)

    -- (i,..,i)
    module _ (z : k ≡ 1) where
      kind_diagonal : (layout_in s).kind ≡ 1
      kind_diagonal = kind_read q e ∙ z

      abbrev extent : ℕ
      extent = get_or (layout_in s).shape 0 0

      diagonal_rows_lem : rows_of_block (layout_in s) ≡ map (λ j. replicate (rank (layout_in s)) j) (below extent)
      unfolding expanded
      diagonal_rows_lem = rw kind_diagonal

      diagonal_inside : i < extent
      diagonal_inside = rw (diagonal_rows_lem, length-map, from_length) at inside

      pub number_fits : i < 2 ^ 31
      number_fits = omega (arith, diagonal_inside, extent_limited (layout_sound q).sizes 0)

      pub diagonal_case : {v : ℤ} → v ≡ pos i → row_at 0 (row_width (layout_in s)) (five v) ≡ get_or (rows_of_block (layout_in s)) i []
      diagonal_case is =
          let b = lies q in
          rw (is, diagonal_rows_lem, kind_diagonal)
          (five_row (rank (layout_in s)) i (omega (arith, rank_shown q, b.rank_few))
          ∙ sym (map_at (λ j. replicate (rank (layout_in s)) j) (below extent) i 0 [] (rw from_length diagonal_inside)
          ∙ ap (λ (n : ℕ). replicate (rank (layout_in s)) n) (from_at 0 extent i 0 diagonal_inside ∙ zero-add i)))

    -- a row of a sparse block
    module _ (m : k ≡ 0 → ⊥) (n : k ≡ 1 → ⊥) where
      kind_two : (layout_in s).kind ≡ 2
      kind_two = kind_sparse q e m n

      sparse_rows : rows_of_block (layout_in s) ≡ rows_at h.rows.first h.width h.rows.count s
      sparse_rows = rw kind_two (ap (λ (l : Layout). l.rows) (layout_shown q))

      sparse_inside : i < h.rows.count
      sparse_inside = omega (arith, inside, ap length sparse_rows, length_rows h.rows.first h.width h.rows.count s)

      pub row_ended : h.rows.first + i * h.width + h.width ≤ length s
      row_ended = omega (arith, row_ends h.width sparse_inside, rows_room q.readable)

      pub ask_read : (h.rows.first + i * h.width + h.width ≤ length s) × (h.width ≤ 5)
      ask_read = let b = lies q in (row_ended, omega (arith, b.narrow, b.rank_few))

      pub is_row : (out : List ℤ) → row_at 0 h.width out ≡ row_at (h.rows.first + i * h.width) h.width s →
          row_at 0 (row_width (layout_in s)) out ≡ get_or (rows_of_block (layout_in s)) i []
      is_row out is = rw (sparse_rows, kind_two, width_shown q) (is ∙ sym (row_of h.rows.first h.width h.rows.count s i sparse_inside))

-- ---- how many entries there are: `count_of`

module _ {x : Listed} (r : ℕ) {h : Head} {s : List ℤ} (q : SoundRecord h s) where
  pub count_rows : {n : ℕ} → x ≡ Rows → n ≡ nnz (layout_in s) → n ≡ length (listed x r (layout_in s))
  count_rows e f = f ∙ sym (rows_count (layout_in s)) ∙ rw e

  pub count_states : x ≡ States → h.states.count ≡ length (listed x r (layout_in s))
  count_states e = rw (e, length-map, ap (λ (l : Layout). l.states) (layout_shown q), length_rows)

  pub count_inputs : x ≡ Inputs → h.inputs.count ≡ length (listed x r (layout_in s))
  count_inputs e = rw (e, length-map, ap (λ (l : Layout). l.inputs) (layout_shown q), length_rows)

pub ruleset counting = (count_rows, count_states, count_inputs)

-- ---- one entry: `entry_of`

-- a dependency of a record, fitted
fitted_at : (r a w n : ℕ) (s : List ℤ) {i : ℕ} → i < n → get_or (fitted r (rows_at a w n s)) i [] ≡ on_index (fit_to r 0) (row_at (a + i * w) w s)
fitted_at r a w n s {i} h =
    map_at (on_index (fit_to r 0)) (rows_at a w n s) i [] [] (rw length_rows h) ∙ ap (on_index (fit_to r 0)) (row_of a w n s i h)

module _ {x : Listed} {h : Head} {s : List ℤ} {r w : ℕ} (a : ListAsked x h s r w) {i : ℕ} (inside : i < length (listed x r (layout_in s))) where
  pub ask_row_lem : x ≡ Rows → i < length (rows_of_block (layout_in s))
  ask_row_lem e = rw e at inside

  pub entry_row : x ≡ Rows → (out : List ℤ) → row_at 0 (row_width (layout_in s)) out ≡ get_or (rows_of_block (layout_in s)) i [] →
      row_at 0 w out ≡ get_or (listed x r (layout_in s)) i []
  entry_row e out is = let f = rw e at a.fits in rw (e, f.1) is

  states_are : (layout_in s).states ≡ rows_at h.states.first (h.rank + 1) h.states.count s
  states_are = ap (λ (l : Layout). l.states) (layout_shown a.source)

  inputs_are : (layout_in s).inputs ≡ rows_at h.inputs.first (h.rank + 1) h.inputs.count s
  inputs_are = ap (λ (l : Layout). l.inputs) (layout_shown a.source)

  pub ask_state : x ≡ States → DepAsked h.states h.rank r i s
  ask_state e = record {
    has = has_states a.source.readable;
    old_few = (lies a.source).rank_few;
    few = a.few;
    within = rw (← count_states r a.source e) at inside;
  }

  pub ask_input : x ≡ Inputs → DepAsked h.inputs h.rank r i s
  ask_input e = record {
    has = has_inputs a.source.readable;
    old_few = (lies a.source).rank_few;
    few = a.few;
    within = rw (← count_inputs r a.source e) at inside;
  }

  pub entry_state : x ≡ States → (out : List ℤ) → row_at 0 (r + 1) out ≡ on_index (fit_to r 0) (row_at (h.states.first + i * (h.rank + 1)) (h.rank + 1) s) →
      row_at 0 w out ≡ get_or (listed x r (layout_in s)) i []
  entry_state e out is =
      let f = rw e at a.fits in
      rw (e, f.1, states_are) (is ∙ sym (fitted_at r h.states.first (h.rank + 1) h.states.count s (ask_state e).within))

  pub entry_input : x ≡ Inputs → (out : List ℤ) → row_at 0 (r + 1) out ≡ on_index (fit_to r 0) (row_at (h.inputs.first + i * (h.rank + 1)) (h.rank + 1) s) →
      row_at 0 w out ≡ get_or (listed x r (layout_in s)) i []
  entry_input e out is =
      let f = rw e at a.fits in
      rw (e, f.1, inputs_are) (is ∙ sym (fitted_at r h.inputs.first (h.rank + 1) h.inputs.count s (ask_input e).within))

pub ruleset entering = (ask_row_lem, entry_row, ask_state, entry_state, ask_input, entry_input)
