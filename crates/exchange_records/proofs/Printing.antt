-- The slots of a pile printed one after the other. Assumes nothing.
use mathlib.Core.Path.{◌≡◌, refl, sym, ◌∙◌}
use mathlib.Core.Bool.{Bool, true, false, not}
use mathlib.Core.List.{List}
use Prim.Native.Nat.{ℕ, ◌+◌, ◌*◌, ◌-◌, ◌/◌, ◌<◌, ◌≤◌}
use native.Mathlib.Numerals.{add-one}
use native.Mathlib.Omega.{arith}
use borrow.Author.Tests.{not-true, not-false}
use lib.IntN.{ℤ}
use lib.ListN.{length, take, drop, length-append, length-take, length-drop}
use lib.Seq.{length-take-le}
use Rattle.rules.specs.Limits.{result_size, list_limit}
use Rattle.rules.specs.Record.{layout_in, sound}
use Rattle.pile.proofs.Exchanging.{slot_lent}
use Rattle.record_text.specs.Lines.{layout_text, refused_text}
use Rattle.record_text.specs.Fronts.{Front}
use Rattle.exchange_records.specs.Piles.{slot_text, slots_text, pile_text}
use Rattle.exchange_records.specs.Growing.{Grown}
use Rattle.exchange_records.proofs.Growing.{back_at, grown_none, grown_more}

-- ---- a slot

module _ (slot : List ℤ) {o : Bool} (e : o ≡ sound slot) where
  pub slot_refused : not o ≡ true → refused_text 3 ≡ slot_text slot
  unfolding slot_text
  slot_refused f = rw (sym e ∙ not-true o f)

  pub slot_lines : not o ≡ false → layout_text (layout_in slot) ≡ slot_text slot
  unfolding slot_text
  slot_lines f = rw (sym e ∙ not-false o f)

  pub slot_sound : not o ≡ false → sound slot ≡ true
  slot_sound f = sym e ∙ not-false o f

-- ---- slot after slot

-- i slots are printed behind a place
pub record Printing (pile : List ℤ) (count at : ℕ) (old : List ℕ) (i next : ℕ) (now : List ℕ) : Type 0 where
  pub counted : count ≡ length pile / result_size
  pub upto : i ≤ count
  pub few : length pile ≤ list_limit * result_size
  pub room : at + 524288 ≤ length old
  pub out_size : length now ≡ length old
  pub short : next ≤ at + 32768 * i
  pub grown : Grown at (slots_text i pile) old now next

pub printing_start : {pile : List ℤ} {at : ℕ} {old : List ℕ} → at + 524288 ≤ length old → length pile ≤ list_limit * result_size → Printing pile (length pile / result_size) at old 0 at old
unfolding slots_text
printing_start {at = at} {old = old} h k = record { counted = refl; upto = omega arith; few = k; room = h; out_size = refl; short = omega arith; grown = grown_none at old (omega arith) }

module _ {pile : List ℤ} {count at : ℕ} {old : List ℕ} {i next : ℕ} {now : List ℕ} (g : Printing pile count at old i next now) where
  module _ (h : i < count) where
    -- the slot lies in the pile, and its lines are lent
    pub slot_in : i * result_size + result_size ≤ length pile
    slot_in = omega (arith, g.counted)

    pub lines_room : next + 32768 ≤ length now
    lines_room = omega (arith, g.short, g.few, g.room, g.out_size, g.counted)

    pub printing_turn : {part : List ℕ} {m : ℕ} → length part ≡ length (take (next + 32768 - next) (drop next now)) →
        Front (slot_text (take (i * result_size + result_size - i * result_size) (drop (i * result_size) pile))) part m → Printing pile count at old (i + 1) (next + m) (back_at next (next + 32768) now part)
    unfolding slots_text
    printing_turn {part} same f =
        let size : length part ≡ 32768 = same ∙ (length-take-le (next + 32768 - next) (drop next now) (rw length-drop (omega (arith, lines_room))) ∙ omega arith) in
        let few = f.counts.0 in
        record {
          counted = g.counted;
          upto = omega arith;
          few = g.few;
          room = g.room;
          out_size = simp (length-append, length-take, length-drop) (omega (arith, g.out_size, lines_room));
          short = omega (arith, g.short);
          grown = rw add-one (grown_more g.grown (omega arith) lines_room same (rw (slot_lent (i * result_size) pile) at f));
        }

  pub printing_done : count ≤ i → Grown at (pile_text pile) old now next
  printing_done h = let all : i ≡ length pile / result_size = omega (arith, g.upto, g.counted) in rw all at g.grown
