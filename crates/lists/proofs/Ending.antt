-- Where a thing ends. Assumes nothing.
use Rattle.std.specs.Prelude.{None, Option, Some}
use mathlib.Core.Path.{◌≡◌, sym, ap, ◌∙◌}
use mathlib.Core.List.{List}
use Prim.Native.Nat.{ℕ, suc, ◌+◌, ◌-◌, ◌^◌, ◌<◌, ◌≤◌}
use native.Mathlib.Numerals.{add-one}
use native.Mathlib.Omega.{arith}
use lib.IntN.{ℤ}
use lib.ListN.{length, take, drop, length-drop, drop_of_length-le}
use lib.Seq.{drop-drop, drop-length}
use mir.Syntax.{w64}
use mir.Val.{Fits}
use Rattle.rules.specs.declared.Entries.{Entries}
use Rattle.rules.specs.declared.Head.{Head}
use Rattle.rules.specs.Record.{section_at, walk, behind_shape, behind_record, behind_block}
use Rattle.records.specs.Sections.{Laid, SectionIn}
use Rattle.records.specs.EndToEnd.{Behind}
use Rattle.records.proofs.EndToEnd.{to_end}
use Rattle.records.proofs.Walks.{walked_head}
use Rattle.lists.specs.declared.walking.Thing.{Thing}
use Rattle.lists.specs.declared.walking.Thing.TheVariants.{Shape, Record, Block}
use Rattle.lists.specs.Places.{behind_thing}

-- ---- a shape

module _ (at : ℕ) (s : List ℤ) {g : (Option Entries)} (is : g ≡ section_at 0 1 (take (length s - at) (drop at s))) (h : at ≤ length s) where
  extents_shown : g ≡ section_at 0 1 (drop at s)
  extents_shown = is ∙ ap (section_at 0 1) (to_end at s)

  shape_room : {e : Entries} → SectionIn 0 1 (take (length s - at) (drop at s)) g → g ≡ Some e → at + e.next ≤ length s
  shape_room {e} lies f =
      let l : Laid 0 1 (take (length s - at) (drop at s)) e = (rw f at lies).0 in
      let r : e.next ≤ length s - at = rw (to_end, length-drop) at l.room in
      omega arith

  pub shape_fits : {e : Entries} → SectionIn 0 1 (take (length s - at) (drop at s)) g → g ≡ Some e → length s < 2 ^ 64 → Fits w64 (at + e.next)
  shape_fits lies f k = record { fits = let r = shape_room lies f in omega arith }

  pub behind_extents : {e : Entries} → SectionIn 0 1 (take (length s - at) (drop at s)) g → g ≡ Some e → Behind behind_shape at s (at + e.next)
  unfolding behind_shape
  behind_extents {e} lies f = record { inside = shape_room lies f; rest = rw (← extents_shown, f) (sym (drop-drop e.next at s)) }

  pub behind_cut : g ≡ None → Behind behind_shape at s (length s)
  unfolding behind_shape
  behind_cut f = record { inside = omega arith; rest = rw (← extents_shown, f) (drop-length s) }

pub ruleset shape_laws = (shape_fits, behind_extents, behind_cut)

-- ---- a record

-- the record that begins at a place was walked, or could not be
module _ (at : ℕ) (s : List ℤ) {w : (Option Head)} (is : w ≡ walk (take (length s - at) (drop at s))) (h : at ≤ length s) where
  shown : walk (drop at s) ≡ w
  shown = sym (is ∙ ap walk (to_end at s))

  room : {k : Head} → w ≡ Some k → at + k.inputs.next ≤ length s
  room e =
      let inside = (walked_head (drop at s) (shown ∙ e)).inputs.room in
      let size = length-drop at s in
      omega arith

  pub walked_fits : {k : Head} → w ≡ Some k → length s < 2 ^ 64 → Fits w64 (at + k.inputs.next)
  walked_fits e l = record { fits = let r = room e in omega arith }

  -- walked, it ends behind its last section
  pub behind_walked : {k : Head} → w ≡ Some k → Behind behind_record at s (at + k.inputs.next)
  unfolding behind_record
  behind_walked {k} e = record { inside = room e; rest = rw (shown ∙ e) (sym (drop-drop k.inputs.next at s)) }

  -- broken, it takes the rest
  pub behind_broken : w ≡ None → Behind behind_record at s (length s)
  unfolding behind_record
  behind_broken e = record { inside = omega arith; rest = rw (shown ∙ e) (drop-length s) }

pub ruleset record_laws = (walked_fits, behind_walked, behind_broken)

-- ---- so many numbers further on

-- the slice has fewer
pub further_end : (at by : ℕ) (s : List ℤ) → length s - at < by → Behind (drop by) at s (length s)
further_end at by s h =
    let short : length (drop at s) ≤ by = rw length-drop (omega arith) in
    record { inside = omega arith; rest = drop-length s ∙ sym (drop_of_length-le (drop at s) short) }

-- it has them
pub further_there : (at by : ℕ) (s : List ℤ) → at ≤ length s → by ≤ length s - at → Behind (drop by) at s (at + by)
further_there at by s h k = record { inside = omega arith; rest = sym (drop-drop by at s) }

pub ruleset further_laws = (further_end, further_there)

-- ---- a thing

module _ {thing : Thing} {at r : ℕ} {s : List ℤ} where
  pub behind_shape_lem : thing ≡ Shape → Behind behind_shape at s r → Behind (behind_thing thing) at s r
  behind_shape_lem e b = rw e b

  pub behind_record_lem : thing ≡ Record → Behind behind_record at s r → Behind (behind_thing thing) at s r
  behind_record_lem e b = rw e b

  -- a block ends where its record does, which stands behind the start and the flag
  pub behind_block_lem : {rank flag layout : ℕ} → thing ≡ Block rank → Behind (drop rank) at s flag → Behind (drop 1) flag s layout → Behind behind_record layout s r →
      Behind (behind_thing thing) at s r
  unfolding behind_block
  behind_block_lem {rank} {flag} {layout} e f l b =
      let place : drop layout s ≡ drop (suc rank) (drop at s) = l.rest ∙ rw (f.rest, drop-drop 1 rank (drop at s), add-one) in
      rw e (record { inside = b.inside; rest = b.rest ∙ ap behind_record place })

pub ruleset thing_laws = (behind_shape_lem, behind_record_lem, behind_block_lem)
