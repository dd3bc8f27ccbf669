-- A sound record is the record of the layout that is read from it. Assumes nothing.
use Rattle.std.specs.Prelude.{None, Option, Some}
use mathlib.Core.Path.{◌≡◌, refl, sym, ◌∙◌}
use mathlib.Core.Bool.{true}
use mathlib.Core.List.{List, [], ◌∷◌, ◌++◌, map, map-append}
use Prim.Native.Nat.{ℕ, zero, suc, min, ◌+◌, ◌*◌, ◌≤◌, ◌<◌}
use native.Mathlib.Nat.{mul-zero, mul-one}
use native.Mathlib.Numerals.{add-one}
use native.Mathlib.Omega.{arith}
use lib.IntN.{ℤ, pos, negsuc}
use lib.ListN.{length, get_or, take, drop, replicate, length-map, length-replicate, take-append-drop}
use lib.Seq.{take-add, drop-cons, take-append_seam}
use lib.Signed.{non_neg}
use Rattle.rules.specs.declared.Entries.{Entries}
use Rattle.rules.specs.declared.Head.{Head}
use Rattle.rules.specs.Limits.{entry_limit}
use Rattle.rules.specs.Lists.{all, gather}
use Rattle.rules.specs.Buffers.{part}
use Rattle.rules.specs.Layout.{Layout, rank, section, encode, sound_layout}
use Rattle.rules.specs.Soundness.{Sound}
use Rattle.rules.specs.Record.{walk, natural, naturals, entries_of, entries_in, layout_by, layout_in, sound_from, sound, behind_record}
use Rattle.rules.proofs.Same.{both_true, true_not_false}
use Rattle.rules.proofs.Buffers.{length_part}
use Rattle.rules.proofs.RowsRead.{all_part, pos_naturals, naturals_take, rows_length, gather_rows}
use Rattle.rules.proofs.Soundness.{sound_true}
use Rattle.rules.proofs.Encoded.{head_of, walk_encode}
use Rattle.rules.proofs.Walked.{Lies, Walked, walked}

-- ---- entries that are read

-- entries of no numbers have none
gather_empty : (n : ℕ) → gather (λ (e : List ℕ). e) (replicate n []) ≡ []
unfolding gather
gather_empty zero = refl
gather_empty (suc n) = gather_empty n

-- 129 that are alike would be too many
length_alike : (n : ℕ) (x : List ℕ) → length (replicate (min n 129) x) ≤ entry_limit → length (replicate (min n 129) x) ≡ n
length_alike n x h = let size = length-replicate (min n 129) x in omega arith

-- at most 128 entries are as many as their count says
length_entries : (w n : ℕ) (l : List ℕ) → length (entries_of w n l) ≤ entry_limit → length (entries_of w n l) ≡ n
unfolding entries_of
length_entries zero n l h = length_alike n [] h
length_entries (suc w) n l h = rows_length (suc w) n l

-- the numbers of the entries are the front
gather_entries : (w n : ℕ) (l : List ℕ) → gather (λ e. e) (entries_of w n l) ≡ take (n * w) l
unfolding entries_of
gather_entries zero n l = rw (mul-zero, gather_empty)
gather_entries (suc w) n l = gather_rows (suc w) n l

-- ---- written again

module _ {i w : ℕ} {s : List ℤ} {e : Entries} (lie : Lies i w s e) where
  -- the part of a section is its count and its numbers
  counted : part i (suc (e.count * w)) s ≡ pos e.count ∷ part (i + 1) (e.count * w) s
  unfolding part
  counted =
      let inside : i < length s = omega arith in
      rw (add-one, drop-cons s i (negsuc 0) inside, lie.count)

  -- it follows on what stands before it
  follows : take i s ++ part i (suc (e.count * w)) s ≡ take e.next s
  unfolding part
  follows = let end : e.next ≡ i + suc (e.count * w) = omega arith in rw (end, take-add)

  module _ (m : ℕ) (last : e.next ≤ m) (natural : all non_neg (take m s) ≡ true) where
    -- its numbers are those that are read
    numbers : map pos (naturals (part (i + 1) (e.count * w) s)) ≡ part (i + 1) (e.count * w) s
    numbers = pos_naturals (part (i + 1) (e.count * w) s) (all_part non_neg (i + 1) (e.count * w) m s (omega arith) natural)

    -- its entries are written as they stand
    section_back : length (entries_in w e s) ≤ entry_limit → map pos (section (entries_in w e s)) ≡ part i (suc (e.count * w)) s
    section_back few =
        let behind : List ℕ = naturals (drop e.first s) in
        let read : gather (λ x. x) (entries_in w e s) ≡ naturals (part (i + 1) (e.count * w) s) =
        gather_entries w e.count behind ∙ naturals_take (e.count * w) (drop e.first s) ∙ (unfold part in rw lie.first) in
        rw (length_entries w e.count behind few, read, numbers, counted)

-- the first two numbers are written as they stand
two_back : (s : List ℤ) → 2 ≤ length s → all non_neg (take 2 s) ≡ true → map pos (natural (get_or s 0 (pos 0)) ∷ natural (get_or s 1 (pos 0)) ∷ []) ≡ take 2 s
two_back [] h e = absurd (omega arith)
two_back (x ∷ []) h e = absurd (omega arith)
two_back (x ∷ y ∷ s) h e = pos_naturals (x ∷ y ∷ []) e

-- five lists written end to end
end_to_end : (a b c d e : List ℕ) {p q r t u : List ℤ} → map pos a ≡ p → map pos b ≡ q → map pos c ≡ r → map pos d ≡ t → map pos e ≡ u → map pos (a ++ b ++ c ++ d ++ e) ≡ p ++ q ++ r ++ t ++ u
end_to_end a b c d e f g h i j = simp map-append (rw (f, g, h, i, j))

module _ {s : List ℤ} {h : Head} (w : Walked s h) (e : all non_neg (take h.inputs.next s) ≡ true) where
  -- kind and D are written as they stand
  front_back : map pos (natural h.kind ∷ natural h.dense ∷ []) ≡ take 2 s
  front_back = rw (w.kind, w.dense) (two_back s (omega arith) (unfold part in all_part non_neg 0 2 h.inputs.next s (omega arith) e))

  -- and so is the shape
  shape_back : map pos (length (naturals (part 3 h.rank s)) ∷ naturals (part 3 h.rank s)) ≡ part 2 (suc (w.extents.count * 1)) s
  shape_back =
      let size : length (part 3 h.rank s) ≡ h.rank = length_part 3 h.rank s (omega arith) in
      rw (length-map, size, counted w.shape_lies, ← numbers w.shape_lies h.inputs.next (omega arith) e, mul-one, w.rank)

  -- the layout that was read has the record that stands there
  encode_back : Sound (layout_by h s) → encode (layout_by h s) ≡ take h.inputs.next s
  unfolding encode layout_by
  encode_back d =
      let m : ℕ = h.inputs.next in
      let l : Layout = layout_by h s in
      let states_lie : Lies h.rows.next (suc h.rank) s h.states = rw add-one at w.states_lie in
      let inputs_lie : Lies h.states.next (suc h.rank) s h.inputs = rw add-one at w.inputs_lie in
      let rows = section_back w.rows_lie m (omega arith) e d.sizes.rows_few in
      let states = section_back states_lie m (omega arith) e d.sizes.states_few in
      let inputs = section_back inputs_lie m (omega arith) e d.sizes.inputs_few in
      end_to_end (l.kind ∷ l.dense ∷ []) (rank l ∷ l.shape) (section l.rows) (section l.states) (section l.inputs) front_back shape_back rows states inputs
      ∙ rw (follows w.shape_lies, follows w.rows_lie, follows states_lie, follows inputs_lie)

-- ---- a sound record

-- what a sound slice has: a head, by which it was walked, no negative number in its record, and a sound layout
record Judged (s : List ℤ) : Type 0 where
  head : Head
  is : walk s ≡ Some head
  natural : all non_neg (take head.inputs.next s) ≡ true
  layout : Sound (layout_by head s)

module _ (s : List ℤ) (e : sound s ≡ true) where
  -- a sound slice was judged so
  judged : Judged s
  unfolding sound
  judged = by (walk s) refl e
    where
      by : (k : Option Head) → walk s ≡ k → sound_from k s ≡ true → Judged s
      by (Some h) p q =
          let b = both_true (all non_neg (take h.inputs.next s)) (sound_layout (layout_by h s)) q in
          record { head = h; is = p; natural = b.0; layout = sound_true b.1 }
      by None p q = absurd (true_not_false q refl)

  -- the layout of a sound record is sound
  pub layout_sound : Sound (layout_in s)
  unfolding layout_in
  layout_sound = rw judged.is judged.layout

  -- its record stands in front, and the rest behind it
  pub record_and_rest : encode (layout_in s) ++ behind_record s ≡ s
  unfolding layout_in behind_record
  record_and_rest =
      let j = judged in
      rw j.is (rw (encode_back (walked s j.head j.is) j.natural j.layout) (take-append-drop j.head.inputs.next s))

  -- so the record of its layout is its front
  pub reads_back : encode (layout_in s) ≡ take (length (encode (layout_in s))) s
  reads_back = sym (rw record_and_rest at (take-append_seam (encode (layout_in s)) (behind_record s)))

  -- and its walk is that of the record of its layout
  pub walk_sound : walk s ≡ Some (head_of (layout_in s))
  walk_sound = rw record_and_rest at (walk_encode layout_sound (behind_record s))
