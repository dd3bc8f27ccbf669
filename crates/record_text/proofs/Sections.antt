-- The lines of a record by the places of its sections: what was written, and what a sound record has there. Assumes nothing.
use Rattle.std.specs.Prelude.{None, Option, Some}
use mathlib.Core.Path.{◌≡◌, sym, ap, ◌∙◌}
use mathlib.Core.Bool.{true}
use mathlib.Core.List.{List}
use Prim.Native.Nat.{ℕ, ◌+◌, ◌-◌, ◌*◌, ◌≤◌}
use native.Mathlib.Omega.{arith}
use lib.IntN.{ℤ}
use lib.ListN.{length, take, drop, length-append}
use Rattle.rules.specs.declared.Head.{Head}
use Rattle.rules.specs.Limits.{result_size}
use Rattle.rules.specs.Buffers.{part}
use Rattle.rules.specs.Layout.{Layout, rank, encode}
use Rattle.rules.specs.Record.{walk, layout_in, sound, behind_record}
use Rattle.rules.proofs.Encoded.{head_of, encode_length, encode_short, kind_part_in, shape_part_in, rows_part_in, states_part_in, inputs_part_in}
use Rattle.rules.proofs.ReadBack.{layout_sound, record_and_rest, walk_sound}
use Rattle.rules.proofs.Buffers.{length_part}
use Rattle.text.specs.Written.{line_text}
use Rattle.text.specs.Placed.{Wrote}
use Rattle.record_text.specs.Lines.{layout_text}
use Rattle.record_text.specs.Fronts.{Front}
use Rattle.record_text.specs.Sections.{line_from, five_lines, InTurn}
use Rattle.record_text.proofs.Fronts.{front_none, front_wrote}

-- a line has at most 12 bytes for each number of its part, and one more
pub part_wrote : (s : List ℤ) (from to : ℕ) {at r : ℕ} {old now : List ℕ} → from ≤ to → to ≤ length s →
    Wrote (12 * length (take (to - from) (drop from s)) + 1) at (line_text (take (to - from) (drop from s))) old now r →
    Wrote (12 * (to - from) + 1) at (line_from from to s) old now r
unfolding part
part_wrote s from to h k w = rw (length_part from (to - from) s (omega arith)) at w

-- five lines written one after the other
pub five_wrote : {rows states inputs end : ℕ} (s : List ℤ) {o₀ o₁ o₂ o₃ o₄ o₅ : List ℕ} {n₁ n₂ n₃ n₄ n₅ : ℕ} →
    InTurn rows states inputs end (length s) → 12 * end + 5 ≤ length o₀ →
    length o₁ ≡ length o₀ → length o₂ ≡ length o₀ → length o₃ ≡ length o₀ → length o₄ ≡ length o₀ →
    Wrote (12 * (2 - 0) + 1) 0 (line_from 0 2 s) o₀ o₁ n₁ →
    Wrote (12 * (rows - 2) + 1) n₁ (line_from 2 rows s) o₁ o₂ n₂ →
    Wrote (12 * (states - rows) + 1) n₂ (line_from rows states s) o₂ o₃ n₃ →
    Wrote (12 * (inputs - states) + 1) n₃ (line_from states inputs s) o₃ o₄ n₄ →
    Wrote (12 * (end - inputs) + 1) n₄ (line_from inputs end s) o₄ o₅ n₅ →
    Front (five_lines rows states inputs end s) o₅ n₅
five_wrote s {o₀} turn room l₁ l₂ l₃ l₄ w₁ w₂ w₃ w₄ w₅ =
    let f₁ = front_wrote (front_none o₀) w₁ (omega arith) in
    let f₂ = front_wrote f₁ w₂ (omega arith) in
    let f₃ = front_wrote f₂ w₃ (omega arith) in
    let f₄ = front_wrote f₃ w₄ (omega arith) in
    front_wrote f₄ w₅ (omega arith)

-- ---- a sound record

module _ (s : List ℤ) (e : sound s ≡ true) {w : Option Head} (is : w ≡ walk s) where
  -- it was walked
  pub not_broken : w ≡ None → ⊥
  not_broken f = let z : ◌≡◌ {A = ℕ} 0 1 = cc (walk_sound s e) in omega arith

  module _ {h : Head} (f : w ≡ Some h) where
    -- by the head of its layout
    head_is : h ≡ head_of (layout_in s)
    head_is = cc (walk_sound s e)

    -- its sections follow one another, and it is not long
    pub in_turn_lem : InTurn (h.rank + 3) h.rows.next h.states.next h.inputs.next (length s) × (h.inputs.next ≤ result_size)
    in_turn_lem =
        let size : length (encode (layout_in s)) + length (behind_record s) ≡ length s = sym (length-append (encode (layout_in s)) (behind_record s)) ∙ ap length (record_and_rest s e) in
        let long = encode_length (layout_sound s e) in
        let short = encode_short (layout_sound s e) in
        rw head_is
        (record { extents_end = omega arith; rows_end = omega arith; states_end = omega arith; inputs_end = omega arith; inside = omega arith }, omega arith)

    -- its lines are those of its layout
    pub lines_are : five_lines (h.rank + 3) h.rows.next h.states.next h.inputs.next s ≡ layout_text (layout_in s)
    unfolding layout_text
    lines_are =
        let l : Layout = layout_in s in
        let at : Head = head_of l in
        let p = layout_sound s e in
        let b : List ℤ = behind_record s in
        let swap : rank l + 3 ≡ 3 + rank l = omega arith in
        let kind = rw (record_and_rest s e) at (kind_part_in p b) in
        let shape = rw (record_and_rest s e) at (shape_part_in p b (3 + rank l - 2) (omega arith)) in
        let rows = rw (record_and_rest s e) at (rows_part_in p b (at.rows.next - (3 + rank l)) (omega arith)) in
        let states = rw (record_and_rest s e) at (states_part_in p b (at.states.next - at.rows.next) (omega arith)) in
        let inputs = rw (record_and_rest s e) at (inputs_part_in p b (at.inputs.next - at.states.next) (omega arith)) in
        rw (head_is, swap) (rw (kind, shape, rows, states, inputs))
