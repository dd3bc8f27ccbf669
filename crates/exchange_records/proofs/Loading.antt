-- Records loaded into the slots of a pile. Assumes nothing.
use Rattle.std.specs.Prelude.{None, Option, Some}
use Rattle.rules.specs.declared.Head.{Head}
use mathlib.Core.Path.{◌≡◌, refl, sym, ap, ◌∙◌}
use mathlib.Core.List.{List, append-nil}
use Prim.Native.Nat.{ℕ, zero, suc, ◌+◌, ◌*◌, ◌-◌, ◌<◌, ◌≤◌, min}
use native.Mathlib.Numerals.{add-one}
use native.Mathlib.Omega.{arith}
use borrow.Author.Tests.{leb-true, leb-false}
use lib.Dec.{leb}
use mathlib.Core.Bool.{Bool, true, false}
use lib.IntN.{ℤ}
use lib.ListN.{length, take, drop, length-append, length-take, length-drop, drop_of_length-le}
use lib.Seq.{take_all, take-length, length-take-le}
use Rattle.rules.specs.Limits.{result_size, list_limit}
use Rattle.rules.specs.Buffers.{over, zeros}
use Rattle.rules.specs.Record.{walk, rest_from, behind_record}
use Rattle.rules.proofs.Buffers.{length_zeros}
use Rattle.records.specs.EndToEnd.{Behind}
use Rattle.exchange_records.specs.Piles.{behind_records, record_numbers, slot_with, pile_of}
use Rattle.exchange_records.specs.Growing.{PileLoaded}
use Rattle.exchange_records.proofs.Growing.{back_at, take_back}

-- ---- a slot

-- zeros behind the first of them
drop_zeros : (k n : ℕ) → drop k (zeros n) ≡ zeros (n - k)
drop_zeros k n = go k n (n - k) refl where
  go : (k n m : ℕ) → n - k ≡ m → drop k (zeros n) ≡ zeros m
  go zero n m e = let is : n ≡ m = omega arith in rw is
  go (suc k) zero m e = let is : m ≡ 0 = omega arith in rw is
  go (suc k) (suc n) m e = go k n m (omega arith)

-- as many numbers as the slice has, or more, take it whole
over_whole : (new old : List ℤ) → length old ≤ length new → over new old ≡ new
unfolding over
over_whole new old h = rw (drop_of_length-le old {i = length new} h, append-nil)

-- what there is room for, by the shorter length
capped : (n size : ℕ) (numbers : List ℤ) → n ≡ min (length numbers) size → take n numbers ≡ take size numbers
capped n size numbers e = go (leb (length numbers) size) refl where
  go : (t : Bool) → leb (length numbers) size ≡ t → take n numbers ≡ take size numbers
  go true h =
      let k = leb-true (length numbers) size h in
      let is : n ≡ length numbers = omega arith in
      rw (is, take-length, take_all size numbers k)
  go false h = let k = leb-false (length numbers) size h in let is : n ≡ size = omega arith in rw is

-- it is copied over zeros
pub slot_loaded : (numbers slot : List ℤ) (n : ℕ) {clear slot' : List ℤ} → length slot ≡ result_size → n ≡ min (length numbers) result_size →
    clear ≡ over (zeros result_size) slot → slot' ≡ over (take n numbers) clear → slot' ≡ slot_with numbers
unfolding over slot_with
slot_loaded numbers slot n is e c f =
    let size : length (take n numbers) ≡ n = length-take-le n numbers (omega arith) in
    let left : result_size - n ≡ result_size - length numbers = omega arith in
    f ∙ rw (c, over_whole (zeros result_size) slot (rw length_zeros (omega arith)), size, drop_zeros n result_size, left, capped n result_size numbers e)

-- ---- a record of a list

-- what stands behind a record is no more than there was
behind_shorter : (s : List ℤ) → length (behind_record s) ≤ length s
unfolding behind_record
behind_shorter s = go (walk s) where
  go : (w : Option Head) → length (rest_from w s) ≤ length s
  go (Some h) = simp length-drop (omega arith)
  go None = omega arith

module _ (list : List ℤ) {at next : ℕ} (h : at ≤ length list) (b : Behind behind_record at list next) where
  pub further_on : at ≤ next
  further_on =
      let k : length (drop next list) ≤ length (drop at list) = rw b.rest (behind_shorter (drop at list)) in
      omega (arith, length-drop next list, length-drop at list, b.inside)

  -- its numbers are those between the places
  numbers_there : take (next - at) (drop at list) ≡ record_numbers (drop at list)
  numbers_there =
      let l = further_on in
      let n : length (drop at list) - length (drop next list) ≡ next - at = simp length-drop (omega (arith, b.inside)) in
      rw (← b.rest, n)

-- ---- record after record

-- i records are in their slots, and the next one begins at a place
pub record Loading (n : ℕ) (list : List ℤ) (i at : ℕ) (pile : List ℤ) : Type 0 where
  pub few : n ≤ list_limit
  pub upto : i ≤ n
  pub size : length pile ≡ n * result_size
  pub inside : at ≤ length list
  pub rest : drop at list ≡ behind_records i list
  pub front : take (i * result_size) pile ≡ pile_of i list

pub loading_start : {n : ℕ} {list pile : List ℤ} → n ≤ list_limit → length pile ≡ n * result_size → Loading n list 0 0 pile
unfolding behind_records pile_of
loading_start h e = record { few = h; upto = omega arith; size = e; inside = omega arith; rest = refl; front = refl }

module _ {n : ℕ} {list : List ℤ} {i at : ℕ} {pile : List ℤ} (g : Loading n list i at pile) where
  module _ (h : i < n) {next : ℕ} (b : Behind behind_record at list next) {slot : List ℤ}
      (is : slot ≡ slot_with (take (next - at) (drop at list))) (same : length slot ≡ length (take (i * result_size + result_size - i * result_size) (drop (i * result_size) pile))) where
    slot_size : length slot ≡ result_size
    slot_size = same ∙ (length-take-le (i * result_size + result_size - i * result_size) (drop (i * result_size) pile) (rw length-drop (omega (arith, g.size))) ∙ omega arith)

    pub loading_turn : Loading n list (i + 1) next (back_at (i * result_size) (i * result_size + result_size) pile slot)
    unfolding behind_records pile_of
    loading_turn =
        let l = slot_size in
        let m : (i + 1) * result_size ≡ i * result_size + result_size = omega arith in
        record {
          few = g.few;
          upto = omega arith;
          size = simp (length-append, length-take, length-drop) (omega (arith, g.size));
          inside = b.inside;
          rest = rw add-one (b.rest ∙ ap behind_record g.rest);
          front = rw m (take_back (i * result_size) (i * result_size + result_size) pile slot result_size (omega (arith, g.size)) (omega arith)
              ∙ rw (add-one, g.front, take_all result_size slot (omega arith), is, numbers_there list g.inside b, g.rest));
        }

  pub loading_done : n ≤ i → PileLoaded n list pile at
  loading_done h =
      let all : i ≡ n = omega (arith, g.upto) in
      record { is = sym (take_all (n * result_size) pile (omega (arith, g.size))) ∙ rw all at g.front; inside = g.inside; rest = rw all at g.rest }
