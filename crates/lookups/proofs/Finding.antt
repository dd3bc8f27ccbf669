-- `find` and `place_of`: an index is read, and its place is found by the kind of the record. Assumes nothing.
use mathlib.Core.Path.{◌≡◌, refl, sym, ap, ◌∙◌}
use mathlib.Core.Bool.{Bool, true, false, not}
use mathlib.Core.List.{List, [], ◌∷◌, map}
use Prim.Native.Nat.{ℕ, ◌+◌, ◌-◌, ◌≤◌}
use native.Mathlib.Omega.{arith}
use borrow.Author.Tests.{eqb-true, eq-eqb, not-true, not-false}
use lib.Dec.{eqb}
use lib.IntN.{ℤ, pos, negsuc}
use lib.ListN.{length, get_or, take, drop, length-append, length-map, length-take}
use lib.Seq.{get_or-drop, take_at, take_all}
use Rattle.rules.specs.declared.Head.{Head}
use Rattle.rules.specs.Limits.{component_limit}
use Rattle.rules.specs.Lists.{if, all, all_below}
use Rattle.rules.specs.Buffers.{part, over, zeros}
use Rattle.rules.specs.RowsInOrder.{increasing, Increasing}
use Rattle.rules.specs.Layout.{Layout, width}
use Rattle.rules.specs.Record.{natural, naturals, layout_in, shape_in, sound, ordered}
use Rattle.rules.specs.Arguments.{up_to, good_components, good_index}
use Rattle.rules.specs.Positions.{ravel_index}
use Rattle.rules.specs.Endings.{Lookup, found, nothing}
use Rattle.rules.specs.Lookup.{read_index, place_from, place_of, lookup}
use Rattle.rules.proofs.Finding.{read_length, lookup_inside, place_dense, place_diagonal, place_sparse}
use Rattle.rules.proofs.Same.{both_true}
use Rattle.rules.proofs.Sections.{naturals_pos}
use Rattle.rules.proofs.Sets.{increasing_true}
use Rattle.rules.proofs.Tests.{true_both}
use Rattle.cells.specs.View.{view}
use Rattle.cells.proofs.View.{view_pos}
use Rattle.tables.specs.Rows.{row_at, rows_at, HasRow}
use Rattle.tables.proofs.Rows.{row_length}
use Rattle.records.specs.Sound.{SoundRecord}
use Rattle.records.proofs.Naturals.{low_front, has_front}
use Rattle.records.proofs.SoundRecords.{lies, layout_shown, sound_rows}
use Rattle.records.proofs.Shown.{record_shape, width_shown}
use Rattle.shapes.proofs.Judging.{rank_counted}
use Rattle.shapes.proofs.Reading.{components_small, length_naturals, natural_get_or}
use Rattle.lookups.specs.Indices.{IndexRead}
use Rattle.lookups.proofs.SoundRecords.{shape_shown, shape_judged, lent_shape, record_extents}
use Rattle.lookups.proofs.Counting.{kind_read, kind_sparse}

-- ---- natural numbers in a slice

-- a component that is read is one
component_good : (z : ℤ) (t : Bool) → up_to component_limit z ≡ true → up_to component_limit (pos (if t 0 (natural z))) ≡ true
unfolding up_to natural
component_good z true e = refl
component_good (pos n) false e = e
component_good (negsuc n) false e = refl

naturals_good : (index : List ℤ) → good_components index ≡ true → good_components (map pos (naturals index)) ≡ true
unfolding good_components all
naturals_good [] e = refl
naturals_good (z ∷ index) e =
    let h = both_true (up_to component_limit z) (good_components index) e in
    true_both (component_good z false h.0) (naturals_good index h.1)

read_good : (index : List ℤ) (shape : List ℕ) → good_components index ≡ true → good_components (map pos (read_index (naturals index) shape)) ≡ true
unfolding good_components all read_index
read_good [] shape e = refl
read_good (z ∷ index) [] e = naturals_good (z ∷ index) e
read_good (z ∷ index) (x ∷ shape) e =
    let h = both_true (up_to component_limit z) (good_components index) e in
    true_both (component_good z (eqb x 1) h.0) (read_good index shape h.1)

-- ---- the index that is read: `find`

module _ {h : Head} {s : List ℤ} (r : SoundRecord h s) where
  -- as many axes as are counted
  rank_there : length (layout_in s).shape ≡ natural (get_or s 2 (pos 0))
  rank_there = rw (← shape_shown r) (rank_counted (drop 2 s) (shape_judged r) ∙ ap natural (get_or-drop 2 s 0 (pos 0)))

  -- an index that was judged has as many components
  index_axes : (index : List ℤ) → good_index index (natural (get_or s 2 (pos 0))) ≡ true → length index ≡ length (layout_in s).shape
  index_axes index g =
      let n : ℕ = natural (get_or s 2 (pos 0)) in
      eqb-true (length index) n (both_true (eqb (length index) n) (good_components index) g).0 ∙ sym rank_there

  pub index_long : (index : List ℤ) → good_index index (natural (get_or s 2 (pos 0))) ≡ true → length index ≡ length (shape_in (take (length s - 2) (drop 2 s)))
  index_long index g = index_axes index g ∙ ap length (sym (lent_shape r))

  module _ (index : List ℤ) {out : List ℤ} (w : out ≡ over (map pos (read_index (naturals index) (shape_in (take (length s - 2) (drop 2 s))))) (zeros 4)) where
    -- as many numbers are written
    size : length (map pos (read_index (naturals index) (layout_in s).shape)) ≡ length index
    size =
        length-map (read_index (naturals index) (layout_in s).shape) pos ∙ read_length (naturals index) (layout_in s).shape ∙ length_naturals index

    pub read_room : length index ≤ length out
    unfolding over
    read_room = rw (w, lent_shape r, length-append, size) (omega arith)

    pub read_lent : length index ≡ length (take (length index) out)
    read_lent = let room = read_room in sym (simp length-take (omega arith))

    pub index_read : good_index index (natural (get_or s 2 (pos 0))) ≡ true → IndexRead s index (take (length index) out)
    unfolding over
    index_read g = record { good = g; is = rw (w, lent_shape r) (take_at _ _ (length index) size) }

pub ruleset reads = (index_long, read_room, read_lent, index_read)

-- ---- its place: `place_of`

module _ {h : Head} {s index read : List ℤ} (r : SoundRecord h s) (i : IndexRead s index read) where
  -- the index as it is read
  abbrev numbers : List ℕ
  numbers = read_index (naturals index) (layout_in s).shape

  read_numbers : naturals read ≡ numbers
  read_numbers = rw i.is (naturals_pos numbers)

  read_axes : length read ≡ length (layout_in s).shape
  read_axes = rw i.is (length-map numbers pos ∙ read_length (naturals index) (layout_in s).shape ∙ length_naturals index) ∙ index_axes r index i.good

  components : good_components read ≡ true
  components =
      let n : ℕ = natural (get_or s 2 (pos 0)) in
      rw i.is (read_good index (layout_in s).shape (both_true (eqb (length index) n) (good_components index) i.good).1)

  axes_counted : length (layout_in s).shape ≡ h.rank
  axes_counted = rw (← record_shape r) (row_length 3 h.rank s (record_extents r).room)

  -- it can be compared
  read_whole : HasRow 0 h.rank read
  unfolding part
  read_whole = record {
    room = omega (arith, read_axes, axes_counted);
    low = rw (i.is, view_pos numbers) (low_front h.rank numbers (λ k l. omega (arith, rw (i.is, view_pos) at (components_small read components k))));
  }

  -- it and the extents lie in their slices
  pub rows_lie : HasRow 0 h.rank read × (3 + h.rank ≤ length s)
  rows_lie = (read_whole, (record_extents r).room)

  pub read_good_index : good_index read (length (shape_in (take (length s - 2) (drop 2 s)))) ≡ true
  read_good_index = rw (lent_shape r) (true_both (eq-eqb (length read) (length (layout_in s).shape) read_axes) components)

  whole_read : row_at 0 h.rank read ≡ numbers
  unfolding part
  whole_read = rw (i.is, view_pos numbers) (take_all h.rank numbers (omega (arith, ap length i.is, length-map numbers pos, read_axes, axes_counted)))

  module _ {t : Bool} (e : t ≡ all_below (row_at 0 h.rank read) (row_at 3 h.rank s)) where
    -- whether it is inside the shape
    below : t ≡ all_below numbers (layout_in s).shape
    below = e ∙ rw (whole_read, record_shape r)

    -- it is not
    pub place_outside : not t ≡ true → nothing ≡ lookup (layout_in s) (naturals index)
    unfolding lookup
    place_outside f = rw (← below, not-true t f)

    module _ (f : not t ≡ false) {k : ℕ} (d : k ≡ get_or (view s) 0 0) where
      -- it is: its place is looked up
      looked_up : lookup (layout_in s) (naturals index) ≡ place_of (layout_in s) (naturals index) numbers
      looked_up = lookup_inside (layout_in s) (naturals index) (sym below ∙ not-false t f)

      -- in a dense record
      pub place_raveled : {n : ℕ} → k ≡ 0 → n ≡ ravel_index (naturals read) (shape_in (take (length s - 2) (drop 2 s))) →
          found n ≡ lookup (layout_in s) (naturals index)
      place_raveled z g =
          sym (looked_up ∙ place_dense (layout_in s) (naturals index) numbers (kind_read r d ∙ z) ∙ ap found (sym (g ∙ rw (read_numbers, lent_shape r))))

      -- in a diagonal one
      pub place_alike : {x : ℕ} {v : Lookup} → k ≡ 1 → x ≡ natural (get_or read 0 (pos 0)) →
          v ≡ if (all (eqb x) (naturals index)) (found x) nothing → v ≡ lookup (layout_in s) (naturals index)
      place_alike {x} z g j =
          let first : x ≡ get_or numbers 0 0 = g ∙ sym (natural_get_or read 0) ∙ ap (λ (l : List ℕ). get_or l 0 0) read_numbers in
          j ∙ sym (looked_up ∙ place_diagonal (layout_in s) (naturals index) numbers (kind_read r d ∙ z) ∙ rw (← first))

      -- in a sparse one
      row_read : row_at 0 h.width read ≡ take (width (layout_in s)) numbers
      unfolding part
      row_read = rw (width_shown r, i.is, view_pos numbers)

      pub place_listed : {v : Lookup} → (k ≡ 0 → ⊥) → (k ≡ 1 → ⊥) →
          v ≡ place_from 0 (row_at 0 h.width read) (rows_at h.rows.first h.width h.rows.count s) → v ≡ lookup (layout_in s) (naturals index)
      place_listed m n j =
          let rows : (layout_in s).rows ≡ rows_at h.rows.first h.width h.rows.count s = ap (λ (l : Layout). l.rows) (layout_shown r) in
          j ∙ sym (looked_up ∙ place_sparse (layout_in s) (naturals index) numbers (kind_sparse r d m n) ∙ rw (← row_read, rows))

  -- the row that is looked for
  pub read_row : HasRow 0 h.width read
  read_row = let b = lies r in has_front read_whole (omega arith)

-- the rows that it is looked for among
module _ {h : Head} {s : List ℤ} (r : SoundRecord h s) where
  pub rows_rise : ordered s ≡ true → Increasing (rows_at h.rows.first h.width h.rows.count s)
  unfolding ordered
  rows_rise e = increasing_true _ (rw (layout_shown r) at (both_true (sound s) (increasing (layout_in s).rows) e).1)

pub ruleset places = (rows_lie, read_good_index, place_outside, place_raveled, place_alike, place_listed, read_row, sound_rows, rows_rise)
