-- `sound_by` and `row`: what is answered about a record. Assumes nothing.
use Rattle.std.specs.Prelude.{None, Option, Some}
use mathlib.Core.Path.{◌≡◌, refl, sym, ap, ◌∙◌}
use mathlib.Core.Bool.{Bool, true, false, not, and-true, and-false}
use mathlib.Core.List.{List, [], map}
use Prim.Native.Nat.{ℕ, zero, suc, min, ◌+◌, ◌*◌, ◌-◌, ◌^◌, ◌<◌, ◌≤◌}
use native.Mathlib.Omega.{arith}
use borrow.Author.Tests.{leb-false, lt-leb, not-true, not-false, lt-ltb, le-ltb}
use lib.Dec.{leb}
use lib.IntN.{ℤ, pos, negsuc}
use lib.ListN.{length, take, drop, length-replicate, length-map}
use lib.Signed.{mag, non_neg}
use Rattle.rules.specs.declared.Head.{Head}
use Rattle.rules.specs.Lists.{all}
use Rattle.rules.specs.Buffers.{part}
use Rattle.rules.specs.Layout.{well_formed, within_sizes, sound_layout}
use Rattle.rules.specs.Record.{natural, entries_of, layout_by, sound_from, sound, row_part, row_start, row, row_place}
use Rattle.rules.proofs.Same.{true_not_false}
use Rattle.rules.proofs.Buffers.{length_part}
use Rattle.rules.proofs.RowsRead.{rows_length}
use borrow.Rule.Slice.Shared.{by_size}
use denote.Ref.{Bor}
use Rattle.cells.specs.View.{view, Low, sign_of}
use Rattle.cells.proofs.Signed.{held, back}
use Rattle.rules.specs.Endings.{BeginsAt}
use Rattle.records.specs.Heads.{HeadOf}
use Rattle.records.specs.Judging.{Readable, few_entries, fit_of, rows_increase}
use Rattle.records.specs.Sound.{SoundRecord, sound_head}
use Rattle.records.proofs.Sections.{sign_natural, sign_negative}
use Rattle.tables.proofs.Passing.{row_room}
use Rattle.records.proofs.InTurn.{first_fails, first_holds}
use Rattle.records.proofs.Fits.{unfit}
use Rattle.records.proofs.Layouts.{rows_room}
use Rattle.records.proofs.SoundRecords.{readable_head, sound_record, no_head}

-- ---- a record of too many entries is not sound

-- too many entries are counted as too many
entries_many : (w n : ℕ) (l : List ℕ) → leb n 128 ≡ false → leb (length (entries_of w n l)) 128 ≡ false
unfolding entries_of
entries_many zero n l e = let many = leb-false n 128 e in rw length-replicate (lt-leb (min n 129) 128 (omega arith))
entries_many (suc w) n l e = rw (rows_length (suc w) n l) e

-- the rank of the layout is that of the record
rank_read : {h : Head} {s : List ℤ} → HeadOf h s → length (map natural (part 3 h.rank s)) ≡ h.rank
rank_read {h} {s} g = length-map (part 3 h.rank s) natural ∙ length_part 3 h.rank s (omega (arith, g.rows))

module _ {h : Head} {s : List ℤ} (g : HeadOf h s) where
  -- too many axes
  many_axes : leb h.rank 4 ≡ false → sound_layout (layout_by h s) ≡ false
  unfolding sound_layout well_formed layout_by
  many_axes e = let f : leb (length (map natural (part 3 h.rank s))) 4 ≡ false = rw (rank_read g) e in simp (f, and-false)

  -- too many rows
  many_rows : leb h.rows.count 128 ≡ false → sound_layout (layout_by h s) ≡ false
  unfolding sound_layout within_sizes layout_by
  many_rows e = simp (entries_many h.width h.rows.count (map natural (drop h.rows.first s)) e, and-false)

  -- too many dependencies on states
  many_states : leb h.states.count 128 ≡ false → sound_layout (layout_by h s) ≡ false
  unfolding sound_layout within_sizes layout_by
  many_states e = simp (entries_many (suc h.rank) h.states.count (map natural (drop h.states.first s)) e, and-false)

  -- too many on inputs
  many_inputs : leb h.inputs.count 128 ≡ false → sound_layout (layout_by h s) ≡ false
  unfolding sound_layout within_sizes layout_by
  many_inputs e = simp (entries_many (suc h.rank) h.inputs.count (map natural (drop h.inputs.first s)) e, and-false)

  -- too many of any
  many_entries : few_entries h ≡ false → sound_layout (layout_by h s) ≡ false
  unfolding few_entries
  many_entries e = by (leb h.rank 4) refl (leb h.rows.count 128) refl (leb h.states.count 128) refl (leb h.inputs.count 128) refl
    where
      by : (a : Bool) → leb h.rank 4 ≡ a → (b : Bool) → leb h.rows.count 128 ≡ b → (c : Bool) → leb h.states.count 128 ≡ c →
          (d : Bool) → leb h.inputs.count 128 ≡ d → sound_layout (layout_by h s) ≡ false
      by false p b q c r d t = many_axes p
      by true p false q c r d t = many_rows q
      by true p true q false r d t = many_states r
      by true p true q true r false t = many_inputs t
      by true p true q true r true t = absurd (true_not_false (rw (p, q, r, t)) e)

-- ---- a walked record: `sound_by`

-- what is found of it, by whether it is sound
abbrev found : Head → List ℤ → Option Bool
found h s = fit_of (sound_from (Some h) s) (rows_increase h s)

module _ {h : Head} {s : List ℤ} (g : HeadOf h s) {t₁ : Bool} (e₁ : t₁ ≡ few_entries h) where
  -- it has too many entries
  pub too_many : not t₁ ≡ true → None ≡ found h s
  too_many f =
      unfit (sound_from (Some h) s) (rows_increase h s)
      (sym (rw (many_entries g (sym e₁ ∙ not-true t₁ f)) (and-false (all non_neg (take h.inputs.next s)))))

  module _ (f₁ : not t₁ ≡ false) {t₂ : Bool} where
    -- it is readable
    pub is_readable : (t₂ ≡ true → Low (take h.inputs.next (view s))) → not t₂ ≡ false → Readable h s
    is_readable low f = record { head = g; few = sym e₁ ∙ not-false t₁ f₁; low = low (not-false t₂ f) }

module _ (h : Head) (s : List ℤ) {t : Bool} (e : t ≡ all non_neg (take h.inputs.next s)) where
  -- it has a negative number
  pub is_negative : not t ≡ true → None ≡ found h s
  is_negative f = unfit (sound_from (Some h) s) (rows_increase h s) (first_fails (sound_layout (layout_by h s)) e f)

  module _ (f : not t ≡ false) {u : Bool} (d : u ≡ within_sizes (layout_by h s)) where
    -- it breaks a limit of size
    pub is_large : not u ≡ true → None ≡ found h s
    unfolding sound_layout
    is_large k =
        unfit (sound_from (Some h) s) (rows_increase h s)
        (sym (first_holds e f ∙ rw (← d, not-true u k) (and-false (well_formed (layout_by h s)))))

    -- it keeps them, so the other rules decide
    pub by_form : {r : (Option Bool)} → not u ≡ false → r ≡ fit_of (well_formed (layout_by h s)) (rows_increase h s) → r ≡ found h s
    unfolding sound_layout
    by_form k q =
        q
        ∙ ap (λ (b : Bool). fit_of b (rows_increase h s)) (sym (first_holds e f ∙ rw (← d, not-false u k) (and-true (well_formed (layout_by h s)))))

pub ruleset judged = (too_many, is_readable, is_negative, is_large, by_form)

-- ---- a row of it: `row_of` and `row`

module _ {h : Head} {s : List ℤ} (p : Readable h s) (i : ℕ) where
  -- there is no row i
  pub no_row : h.rows.count ≤ i → [] ≡ row_part i (Some h) s
  no_row l = rw (le-ltb i h.rows.count)

  -- an empty part is the one at the front
  pub no_row_place : h.rows.count ≤ i → 0 ≡ row_start i (Some h)
  no_row_place l = rw (le-ltb i h.rows.count)

  -- row i begins behind those before it
  pub row_place_lem : i < h.rows.count → h.rows.first + i * h.width ≡ row_start i (Some h)
  row_place_lem l = rw (lt-ltb i h.rows.count)

  -- row i ends in the slice
  pub row_ended : i < h.rows.count → h.rows.first + i * h.width + h.width ≤ length s
  row_ended l = let e = rows_room p in row_room h.rows.first h.width l e

  -- it is a part of the slice
  pub is_row : i < h.rows.count → let from = h.rows.first + i * h.width in take (from + h.width - from) (drop from s) ≡ row_part i (Some h) s
  unfolding part
  is_row l =
      let from = h.rows.first + i * h.width in
      let size : from + h.width - from ≡ h.width = omega arith in
      rw (lt-ltb i h.rows.count, size)

pub ruleset parts = (no_row, is_row)

-- a part begins where it was taken from
pub begins : (s r : Bor (List ℤ)) {k m : ℕ} → k ≡ m → r.ref_ptr ≡ (s.ref_ptr.0, by_size 4 k s.ref_ptr.1) → BeginsAt m s r
begins s r e p = record { there = rw (← e) p }

-- and a part that was handed on, where it began
pub begins_there : {s r : Bor (List ℤ)} {k m : ℕ} → k ≡ m → BeginsAt k s r → BeginsAt m s r
begins_there e p = rw (← e) p

-- in a record that is not sound there is no row, whatever is asked for
no_row_there : (s : List ℤ) (z : ℤ) → sound s ≡ false → [] ≡ row s z
unfolding row
no_row_there s (pos i) e = rw e
no_row_there s (negsuc i) e = refl

no_place_there : (s : List ℤ) (z : ℤ) → sound s ≡ false → 0 ≡ row_place s z
unfolding row_place
no_place_there s (pos i) e = rw e
no_place_there s (negsuc i) e = refl

-- a negative number asks for none
no_row_negative : (s : List ℤ) (z : ℤ) → sign_of z ≡ None → [] ≡ row s z
unfolding row
no_row_negative s z e = rw (sign_negative z e)

no_place_negative : (s : List ℤ) (z : ℤ) → sign_of z ≡ None → 0 ≡ row_place s z
unfolding row_place
no_place_negative s z e = rw (sign_negative z e)

module _ (s : List ℤ) (z : ℤ) where
  -- the record is not sound
  pub unsound_row : {r : (Option Head)} → r ≡ sound_head s → r ≡ None → [] ≡ row s z
  unsound_row e f = no_row_there s z (no_head s e f)

  pub unsound_place : {r : (Option Head)} → r ≡ sound_head s → r ≡ None → 0 ≡ row_place s z
  unsound_place e f = no_place_there s z (no_head s e f)

  module _ {g : (Option ℕ)} (small : mag z < 2 ^ 31) (e : g ≡ sign_of (held z)) where
    -- the sign of the number that was asked for
    asked : sign_of z ≡ g
    asked = sym (e ∙ ap sign_of (back z small))

    -- it is negative
    pub negative_row : g ≡ None → [] ≡ row s z
    negative_row f = no_row_negative s z (asked ∙ f)

    pub negative_place : g ≡ None → 0 ≡ row_place s z
    negative_place f = no_place_negative s z (asked ∙ f)

    -- it is natural
    pub found_row : {h : Head} {i : ℕ} {l : List ℤ} → SoundRecord h s → g ≡ Some i → l ≡ row_part i (Some h) s → l ≡ row s z
    unfolding row
    found_row r f m = m ∙ rw (sign_natural z (asked ∙ f), r.judged, r.walked)

    pub found_place : {h : Head} {i : ℕ} → SoundRecord h s → g ≡ Some i → row_start i (Some h) ≡ row_place s z
    unfolding row_place
    found_place r f = rw (sign_natural z (asked ∙ f), r.judged, r.walked)

pub ruleset rows = (readable_head, sound_record, unsound_row, negative_row, found_row)

pub ruleset places = (sound_record, unsound_place, negative_place, found_place)
