-- The record of a sound layout is walked to its end and read back, whatever stands behind it. Assumes nothing.
use Rattle.std.specs.Prelude.{Some}
use mathlib.Core.Path.{◌≡◌, sym, ap, ◌∙◌}
use mathlib.Core.Bool.{true}
use mathlib.Core.List.{List, [], ◌∷◌, ◌++◌, map, append_assoc, append-nil, map-append}
use Prim.Native.Nat.{ℕ, zero, suc, ◌+◌, ◌-◌, ◌*◌, ◌≤◌}
use native.Mathlib.Nat.{mul-one, mul-le-mul}
use native.Mathlib.Numerals.{add-one}
use native.Mathlib.Omega.{arith}
use borrow.Author.Tests.{le-ltb}
use lib.IntN.{ℤ, pos, ◌-ℤ◌}
use lib.ListN.{length, get_or, take, drop, length-append, length-map}
use lib.Seq.{take_at}
use lib.Signed.{non_neg}
use Rattle.rules.specs.declared.Entries.{Entries}
use Rattle.rules.specs.declared.Head.{Head}
use Rattle.rules.specs.Limits.{result_size}
use Rattle.rules.specs.Lists.{all}
use Rattle.rules.specs.Buffers.{part}
use Rattle.rules.specs.RowsInOrder.{Each}
use Rattle.rules.specs.Layout.{Layout, rank, width, section, encode}
use Rattle.rules.specs.Soundness.{DepsFit, Sound}
use Rattle.rules.specs.Record.{walk, natural, naturals, entries_of, layout_by, layout_in, sound, behind_record}
use Rattle.rules.proofs.Tests.{true_both}
use Rattle.rules.proofs.Soundness.{true_sound}
use Rattle.rules.proofs.Sections.{naturals_pos, all_pos, length_gather, part_at, Stands, RowsStand, rows_read, section_at_lem, section_part, section_body, section_behind}

-- ---- places

-- the rows t, of w numbers each, from f on
abbrev pub entries_at : ℕ → ℕ → List (List ℕ) → Entries
entries_at f w t = record { count = length t; first = f; next = f + length t * w }

-- what walking the record of a layout gives
abbrev pub head_of : Layout → Head
head_of l =
    let rows = entries_at (4 + rank l) (width l) l.rows in
    let states = entries_at (rows.next + 1) (rank l + 1) l.states in
    record {
      kind = pos l.kind;
      dense = pos l.dense;
      rank = rank l;
      width = width l;
      rows = rows;
      states = states;
      inputs = entries_at (states.next + 1) (rank l + 1) l.inputs;
    }

-- R - D is a natural number where D is at most R
pub width_natural : (r d : ℕ) → d ≤ r → pos r -ℤ pos d ≡ pos (r - d)
width_natural r zero h = let same : r + 0 ≡ r - 0 = omega arith in rw same
width_natural r (suc d) h = rw (le-ltb r (suc d) h)

-- dependencies that fit have R + 1 numbers
deps_lengths : {l : Layout} {deps : List (List ℕ)} → DepsFit l deps → Each (λ d. length d ≡ rank l + 1) deps
deps_lengths {l} f d m = f.lengths d m ∙ sym (add-one (rank l))

-- no number of a record is negative
all_encode : (l : Layout) → all non_neg (encode l) ≡ true
unfolding encode
all_encode l = all_pos (l.kind ∷ l.dense ∷ rank l ∷ l.shape ++ section l.rows ++ section l.states ++ section l.inputs)

module _ {l : Layout} (s : Sound l) where
  -- a record ends where its dependencies on inputs do
  pub encode_length : length (encode l) ≡ (head_of l).inputs.next
  unfolding encode
  encode_length =
      let rows = length_gather (width l) l.rows s.form.row_lengths in
      let states = length_gather (rank l + 1) l.states (deps_lengths s.form.states_fit) in
      let inputs = length_gather (rank l + 1) l.inputs (deps_lengths s.form.inputs_fit) in
      simp (length-map, length-append) (omega arith)

  -- that is at most 1,802 numbers
  pub encode_short : length (encode l) ≤ result_size
  encode_short =
      let rows : length l.rows * width l ≤ 128 * 4 = mul-le-mul {m₂ = 4} s.sizes.rows_few (omega arith) in
      let states : length l.states * (rank l + 1) ≤ 128 * 5 = mul-le-mul {m₂ = 5} s.sizes.states_few (omega arith) in
      let inputs : length l.inputs * (rank l + 1) ≤ 128 * 5 = mul-le-mul {m₂ = 5} s.sizes.inputs_few (omega arith) in
      rw encode_length (omega arith)

-- ---- what stands where

-- four lists written end to end, and what stands behind them
end_to_end : (a b c d : List ℕ) (q : List ℤ) → map pos (a ++ b ++ c ++ d) ++ q ≡ map pos a ++ (map pos b ++ (map pos c ++ (map pos d ++ q)))
end_to_end a b c d q = simp (map-append, append_assoc)

module _ {l : Layout} (s : Sound l) (rest : List ℤ) where
  -- the rows begin behind 4 numbers and the shape
  four : 3 + rank l + 1 ≡ 4 + rank l
  four = omega arith

  -- what stands behind the dependencies on states
  abbrev from_inputs : List ℤ
  from_inputs = map pos (section l.inputs) ++ rest

  -- what stands behind the rows
  abbrev from_states : List ℤ
  from_states = map pos (section l.states) ++ from_inputs

  -- what stands behind the shape
  abbrev from_rows : List ℤ
  from_rows = map pos (section l.rows) ++ from_states

  -- a record section by section
  split : encode l ++ rest ≡ map pos (l.kind ∷ l.dense ∷ rank l ∷ l.shape) ++ from_rows
  unfolding encode
  split = end_to_end (l.kind ∷ l.dense ∷ rank l ∷ l.shape) (section l.rows) (section l.states) (section l.inputs) rest

  -- the shape stands behind kind and D
  shape_stands : Stands 2 1 (rank l) l.shape (encode l ++ rest) from_rows
  shape_stands = record { is = rw split; size = rw mul-one }

  -- the rows stand behind it
  rows_stand : RowsStand (3 + rank l) (width l) l.rows (encode l ++ rest) from_states
  rows_stand = record { is = rw mul-one at (section_behind shape_stands); size = length_gather (width l) l.rows s.form.row_lengths }

  -- the dependencies on states stand behind them
  states_stand : RowsStand (head_of l).rows.next (rank l + 1) l.states (encode l ++ rest) from_inputs
  states_stand = record { is = rw four at (section_behind rows_stand); size = length_gather (rank l + 1) l.states (deps_lengths s.form.states_fit) }

  -- the dependencies on inputs stand behind those
  inputs_stand : RowsStand (head_of l).states.next (rank l + 1) l.inputs (encode l ++ rest) rest
  inputs_stand = record { is = section_behind states_stand; size = length_gather (rank l + 1) l.inputs (deps_lengths s.form.inputs_fit) }

  -- ---- walked

  -- the record is walked to its end
  pub walk_encode : walk (encode l ++ rest) ≡ Some (head_of l)
  unfolding walk
  walk_encode =
      let kind : get_or (encode l ++ rest) 0 (pos 0) ≡ pos l.kind = rw split in
      let dense : get_or (encode l ++ rest) 1 (pos 0) ≡ pos l.dense = rw split in
      rw (section_at_lem shape_stands, kind, dense, width_natural (rank l) l.dense s.form.dense_most, mul-one, section_at_lem rows_stand, four, section_at_lem states_stand, section_at_lem inputs_stand)

  -- behind it stands the rest
  pub behind_encode : behind_record (encode l ++ rest) ≡ rest
  unfolding behind_record
  behind_encode = rw walk_encode (section_behind inputs_stand)

  -- ---- read

  -- the head reads the layout back
  pub layout_by_encode : layout_by (head_of l) (encode l ++ rest) ≡ l
  unfolding layout_by natural
  layout_by_encode =
      let shape : naturals (part 3 (rank l) (encode l ++ rest)) ≡ l.shape =
      rw (part_at 3 (rank l) (encode l ++ rest) (map pos l.shape) from_rows (section_body shape_stands) (simp length-map)) (naturals_pos l.shape) in
      let rows : entries_of (width l) (length l.rows) (naturals (drop (4 + rank l) (encode l ++ rest))) ≡ l.rows =
      rw four at (rows_read rows_stand s.form.row_lengths s.sizes.rows_few) in
      let states : entries_of (suc (rank l)) (length l.states) (naturals (drop (head_of l).states.first (encode l ++ rest))) ≡ l.states =
      rows_read states_stand s.form.states_fit.lengths s.sizes.states_few in
      let inputs : entries_of (suc (rank l)) (length l.inputs) (naturals (drop (head_of l).inputs.first (encode l ++ rest))) ≡ l.inputs =
      rows_read inputs_stand s.form.inputs_fit.lengths s.sizes.inputs_few in
      rw (shape, rows, states, inputs)

  -- the layout is read back
  pub layout_encode : layout_in (encode l ++ rest) ≡ l
  unfolding layout_in
  layout_encode = rw (walk_encode, layout_by_encode)

  -- the record is sound
  pub sound_encode : sound (encode l ++ rest) ≡ true
  unfolding sound
  sound_encode =
      let whole : take (head_of l).inputs.next (encode l ++ rest) ≡ encode l = take_at (encode l) rest (head_of l).inputs.next (encode_length s) in
      rw (walk_encode, whole, layout_by_encode) (true_both (all_encode l) (true_sound s))

  -- ---- its parts

  -- kind and D
  pub kind_part_in : part 0 2 (encode l ++ rest) ≡ map pos (l.kind ∷ l.dense ∷ [])
  unfolding part
  kind_part_in = rw split

  -- the shape with its count
  pub shape_part_in : (n : ℕ) → 2 + n ≡ 3 + rank l → part 2 n (encode l ++ rest) ≡ map pos (rank l ∷ l.shape)
  shape_part_in n e = section_part shape_stands n (omega arith)

  -- the rows with their count
  pub rows_part_in : (n : ℕ) → 3 + rank l + n ≡ (head_of l).rows.next → part (3 + rank l) n (encode l ++ rest) ≡ map pos (section l.rows)
  rows_part_in n e = section_part rows_stand n (omega arith)

  -- the dependencies on states with their count
  pub states_part_in : (n : ℕ) → (head_of l).rows.next + n ≡ (head_of l).states.next → part (head_of l).rows.next n (encode l ++ rest) ≡ map pos (section l.states)
  states_part_in n e = section_part states_stand n e

  -- the dependencies on inputs with their count
  pub inputs_part_in : (n : ℕ) → (head_of l).states.next + n ≡ (head_of l).inputs.next → part (head_of l).states.next n (encode l ++ rest) ≡ map pos (section l.inputs)
  inputs_part_in n e = section_part inputs_stand n e

-- ---- with nothing behind it

module _ {l : Layout} (s : Sound l) where
  -- the record is walked to its end
  pub walk_alone : walk (encode l) ≡ Some (head_of l)
  walk_alone = rw append-nil at (walk_encode s [])

  -- the layout is read back
  pub layout_alone : layout_in (encode l) ≡ l
  layout_alone = rw append-nil at (layout_encode s [])

  -- the record is sound
  pub sound_alone : sound (encode l) ≡ true
  sound_alone = rw append-nil at (sound_encode s [])

  -- nothing stands behind it
  pub behind_alone : behind_record (encode l) ≡ []
  behind_alone = rw append-nil at (behind_encode s [])

  -- kind and D
  pub kind_part : part 0 2 (encode l) ≡ map pos (l.kind ∷ l.dense ∷ [])
  kind_part = rw append-nil at (kind_part_in s [])

  -- the shape with its count
  pub shape_part : (n : ℕ) → 2 + n ≡ 3 + rank l → part 2 n (encode l) ≡ map pos (rank l ∷ l.shape)
  shape_part n e = rw append-nil at (shape_part_in s [] n e)

  -- the rows with their count
  pub rows_part : (n : ℕ) → 3 + rank l + n ≡ (head_of l).rows.next → part (3 + rank l) n (encode l) ≡ map pos (section l.rows)
  rows_part n e = rw append-nil at (rows_part_in s [] n e)

  -- the dependencies on states with their count
  pub states_part : (n : ℕ) → (head_of l).rows.next + n ≡ (head_of l).states.next → part (head_of l).rows.next n (encode l) ≡ map pos (section l.states)
  states_part n e = rw append-nil at (states_part_in s [] n e)

  -- the dependencies on inputs with their count
  pub inputs_part : (n : ℕ) → (head_of l).states.next + n ≡ (head_of l).inputs.next → part (head_of l).states.next n (encode l) ≡ map pos (section l.inputs)
  inputs_part n e = rw append-nil at (inputs_part_in s [] n e)

-- sound layouts with the same record are the same
pub one_record : {l m : Layout} → encode l ≡ encode m → Sound l → Sound m → l ≡ m
one_record e s t = sym (layout_alone s) ∙ ap layout_in e ∙ layout_alone t
