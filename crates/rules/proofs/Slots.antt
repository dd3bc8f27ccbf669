-- The slots of a pile of records, and what they hold after a record was written into one of them. Assumes nothing.
use mathlib.Core.Path.{◌≡◌, sym, ap, ◌∙◌}
use mathlib.Core.Bool.{true}
use mathlib.Core.List.{List, ◌++◌}
use Prim.Native.Nat.{ℕ, ◌+◌, ◌-◌, ◌*◌, ◌/◌, ◌<◌, ◌≤◌}
use native.Mathlib.Nat.{zero-add, div-add-mod'}
use native.Mathlib.Omega.{arith}
use lib.IntN.{ℤ}
use lib.ListN.{length, take, drop, set, length-map, length-set}
use lib.Seq.{drop-drop, take-append-add, get_or-set_same, get_or-set_other, ext_get_or}
use Rattle.rules.specs.Limits.{result_size}
use Rattle.rules.specs.Lists.{below}
use Rattle.rules.specs.Buffers.{part, over, put}
use Rattle.rules.specs.Layout.{Layout, encode}
use Rattle.rules.specs.Soundness.{Sound}
use Rattle.rules.specs.Record.{layout_in, nowhere, sound}
use Rattle.rules.specs.Pile.{slot_count, slot_at, sound_slots, layouts_in, layout_of}
use Rattle.rules.proofs.Order.{ComparedNumbers, under, even, above, compare_numbers}
use Rattle.rules.proofs.Buffers.{length_put, drop_put, drop_at_put, part_put_behind, part_put_before}
use Rattle.rules.proofs.Tests.{all_each, each_all}
use Rattle.rules.proofs.Encoded.{encode_short, layout_encode, sound_encode}
use Rattle.rules.proofs.Ranges.{from_length, from_at, from_only, from_has, map_at}

-- ---- slots

-- all of them lie in the slice
slots_room : (pile : List ℤ) → slot_count pile * result_size ≤ length pile
slots_room pile = omega (arith, div-add-mod' (length pile) result_size)

-- each one does
pub slot_room : (pile : List ℤ) (i : ℕ) → i < slot_count pile → i * result_size + result_size ≤ length pile
slot_room pile i h = omega (arith, slots_room pile)

-- where they test as sound, each one is
pub slots_true : (pile : List ℤ) → sound_slots pile ≡ true → (i : ℕ) → i < slot_count pile → sound (slot_at pile i) ≡ true
slots_true pile e i h = all_each (λ k. sound (slot_at pile k)) e i (from_has 0 (slot_count pile) (omega arith) (omega arith))

-- where each one is sound, they test so
pub true_slots : (pile : List ℤ) → ((i : ℕ) → i < slot_count pile → sound (slot_at pile i) ≡ true) → sound_slots pile ≡ true
true_slots pile f = each_all (λ k. sound (slot_at pile k)) (below (slot_count pile)) (λ i m. f i (omega (arith, from_only 0 (slot_count pile) m)))

-- the layouts are as many as the slots
pub layouts_length : (pile : List ℤ) → length (layouts_in pile) ≡ slot_count pile
layouts_length pile = rw (length-map, from_length)

-- the layout at a place is that of the slot
pub layouts_at_lem : (pile : List ℤ) (i : ℕ) → i < slot_count pile → layout_of (layouts_in pile) i ≡ layout_in (slot_at pile i)
layouts_at_lem pile i h =
    map_at (λ k. layout_in (slot_at pile k)) (below (slot_count pile)) i 0 nowhere (rw from_length h)
    ∙ ap (λ k. layout_in (slot_at pile k)) (from_at 0 (slot_count pile) i 0 h ∙ zero-add i)

-- ---- a record written into a slot

module _ (pile : List ℤ) (i : ℕ) (h : i < slot_count pile) (new : List ℤ) (n : length new ≤ result_size) where
  -- the pile with it
  abbrev written : List ℤ
  written = put (i * result_size) new pile

  room : i * result_size + result_size ≤ length pile
  room = slot_room pile i h

  -- it is as long
  pub written_length : length written ≡ length pile
  written_length = length_put (i * result_size) new pile (omega (arith, room))

  -- it has as many slots
  pub written_count : slot_count written ≡ slot_count pile
  written_count = ap (λ k. k / result_size) written_length

  -- what stands behind the last slot stays
  pub written_behind : drop (slot_count pile * result_size) written ≡ drop (slot_count pile * result_size) pile
  written_behind = drop_put (i * result_size) new pile (omega (arith, room)) (slot_count pile * result_size) (omega arith)

  -- another slot stays
  pub slot_stays : (k : ℕ) → (k ≡ i → ⊥) → slot_at written k ≡ slot_at pile k
  slot_stays k o = go (compare_numbers k i)
    where
      go : ComparedNumbers k i → slot_at written k ≡ slot_at pile k
      go (under l) = part_put_before (i * result_size) new pile (omega (arith, room)) (k * result_size) result_size (omega arith)
      go (even l) = absurd (o l)
      go (above l) = part_put_behind (i * result_size) new pile (omega (arith, room)) (k * result_size) result_size (omega arith)

  -- its own slot begins with it
  slot_here : slot_at written i ≡ new ++ part (i * result_size + length new) (result_size - length new) pile
  unfolding part over
  slot_here =
      let size : result_size ≡ length new + (result_size - length new) = omega arith in
      rw (drop_at_put (i * result_size) new pile (omega (arith, room)))
      (ap (λ k. take k (new ++ drop (length new) (drop (i * result_size) pile))) size
      ∙ take-append-add new (drop (length new) (drop (i * result_size) pile)) (result_size - length new)
      ∙ (rw drop-drop))

module _ (pile : List ℤ) (i : ℕ) (h : i < slot_count pile) {l : Layout} (s : Sound l) where
  -- the pile with the record of a sound layout in slot i
  abbrev pub with_record : List ℤ
  with_record = put (i * result_size) (encode l) pile

  -- that slot is read as the layout
  layout_here : layout_in (slot_at with_record i) ≡ l
  layout_here = rw (slot_here pile i h (encode l) (encode_short s)) (layout_encode s _)

  -- its record is sound
  sound_here : sound (slot_at with_record i) ≡ true
  sound_here = rw (slot_here pile i h (encode l) (encode_short s)) (sound_encode s _)

  -- sound slots stay so
  pub slots_sound : sound_slots pile ≡ true → sound_slots with_record ≡ true
  slots_sound e = true_slots with_record (λ k m. go k (omega (arith, written_count pile i h (encode l) (encode_short s))) (compare_numbers k i))
    where
      other : (k : ℕ) → k < slot_count pile → (k ≡ i → ⊥) → sound (slot_at with_record k) ≡ true
      other k m o = rw (slot_stays pile i h (encode l) (encode_short s) k o) (slots_true pile e k m)

      go : (k : ℕ) → k < slot_count pile → ComparedNumbers k i → sound (slot_at with_record k) ≡ true
      go k m (under o) = other k m (omega arith)
      go k m (even o) = rw o sound_here
      go k m (above o) = other k m (omega arith)

  -- the layouts are the old ones with the new one in its place
  pub layouts_set : layouts_in with_record ≡ set (layouts_in pile) i l
  layouts_set = ext_get_or nowhere (layouts_in with_record) (set (layouts_in pile) i l) sizes (λ k m. go k (omega (arith, layouts_length with_record, count)) (compare_numbers k i))
    where
      count : slot_count with_record ≡ slot_count pile
      count = written_count pile i h (encode l) (encode_short s)

      sizes : length (layouts_in with_record) ≡ length (set (layouts_in pile) i l)
      sizes = rw (length-set, layouts_length with_record, layouts_length pile) count

      other : (k : ℕ) → k < slot_count pile → (k ≡ i → ⊥) → layout_of (layouts_in with_record) k ≡ layout_of (set (layouts_in pile) i l) k
      other k m o =
          layouts_at_lem with_record k (rw count m) ∙ ap layout_in (slot_stays pile i h (encode l) (encode_short s) k o)
          ∙ sym (get_or-set_other (layouts_in pile) i k l nowhere o ∙ layouts_at_lem pile k m)

      go : (k : ℕ) → k < slot_count pile → ComparedNumbers k i → layout_of (layouts_in with_record) k ≡ layout_of (set (layouts_in pile) i l) k
      go k m (under o) = other k m (omega arith)
      go k m (even o) =
          rw o (layouts_at_lem with_record i (rw count h) ∙ layout_here ∙ sym (get_or-set_same (layouts_in pile) i l nowhere (rw (layouts_length pile) h)))
      go k m (above o) = other k m (omega arith)
