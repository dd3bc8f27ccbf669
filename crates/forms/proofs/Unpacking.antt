-- `to_dense` and `to_data_layout`: what is written of a sound record. Assumes nothing.
use Rattle.std.specs.Prelude.{Ok, Result}
use Rattle.rules.specs.declared.Refusal.{Refusal}
use mathlib.Core.Path.{◌≡◌, refl, sym, ap, ◌∙◌}
use mathlib.Core.Bool.{Bool, true, false}
use mathlib.Core.List.{List, [], ◌++◌, map, append_assoc}
use Prim.Native.Nat.{ℕ, ◌+◌, ◌-◌, ◌*◌, ◌≤◌}
use native.Mathlib.Nat.{mul-le-mul}
use native.Mathlib.Omega.{arith}
use borrow.Author.Tests.{eqb-false}
use lib.Dec.{eqb}
use lib.IntN.{ℤ, pos}
use lib.ListN.{length, take, drop}
use lib.Seq.{drop_at, length-take-le}
use Rattle.rules.specs.Limits.{result_size}
use Rattle.rules.specs.declared.Head.{Head}
use Rattle.rules.specs.Lists.{if, gather}
use Rattle.rules.specs.Buffers.{part, over}
use Rattle.rules.specs.Layout.{Layout, section, encode}
use Rattle.rules.specs.Record.{layout_in}
use Rattle.rules.specs.Refusals.{given}
use Rattle.rules.specs.Endings.{EndsIn}
use Rattle.rules.specs.CountsAndForms.{to_dense, to_data_layout}
use Rattle.rules.proofs.Buffers.{part_take, length_part}
use Rattle.cells.specs.View.{view}
use Rattle.cells.proofs.View.{view_length, view_part, low_view}
use Rattle.tables.specs.Rows.{rows_at}
use Rattle.records.proofs.Naturals.{low_part}
use Rattle.records.specs.Sound.{SoundRecord}
use Rattle.records.proofs.SoundRecords.{lies, layout_shown, layout_sound}
use Rattle.forms.specs.Pieces.{pieces, PiecesFit}
use Rattle.forms.proofs.Packed.{flat, rows_part, section_packed}
use Rattle.forms.proofs.Pieces.{ends_given, ends_same, encode_pieces}

module _ {h : Head} {s : List ℤ} (r : SoundRecord h s) where
  -- a part of the record is the natural numbers of its view
  part_pos : (a n : ℕ) → a + n ≤ h.inputs.next → part a n s ≡ map pos (part a n (view s))
  part_pos a n l =
      low_view (part a n s) (rw (view_part a n s) (low_part a n h.inputs.next (view s) l r.readable.low)) ∙ ap (map pos) (view_part a n s)

  -- as it is lent
  lent_pos : (a e : ℕ) → a ≤ e → e ≤ h.inputs.next → take (e - a) (drop a s) ≡ map pos (part a (e - a) (view s))
  unfolding part
  lent_pos a e l m = part_pos a (e - a) (omega arith)

  -- the dependencies behind the rows
  deps_behind : part h.rows.next (h.inputs.next - h.rows.next) (view s) ≡ section (layout_in s).states ++ section (layout_in s).inputs
  deps_behind =
      let b = lies r in
      let g = r.readable.head in
      let whole : h.rows.next + (h.inputs.next - h.rows.next) ≡ h.inputs.next = omega arith in
      let long : length (take h.rows.next (view s)) ≡ h.rows.next = length-take-le h.rows.next (view s) (rw view_length (omega arith)) in
      rw (
        part_take h.rows.next (h.inputs.next - h.rows.next) (view s),
        whole,
        section_packed h.states.next (h.rank + 1) s h.inputs g.inputs,
        section_packed h.rows.next (h.rank + 1) s h.states g.states,
        append_assoc,
        drop_at _ _ h.rows.next long,
        layout_shown r,
      )

  -- ---- dense

  -- where the parts end
  pub shape_ends : 3 + h.rank ≤ length s
  shape_ends = let b = lies r in omega arith

  pub deps_start : h.rows.next ≤ h.inputs.next
  deps_start = let g = r.readable.head in omega arith

  pub deps_end : h.inputs.next ≤ length s
  deps_end = (lies r).end_in

  -- there is room for them
  pub dense_room : {result : List ℤ} → result_size ≤ length result →
      PiecesFit 0 h.rank 0 (take (3 + h.rank - 3) (drop 3 s)) [] (take (h.inputs.next - h.rows.next) (drop h.rows.next s)) result
  unfolding part
  dense_room l =
      let b = lies r in
      let g = r.readable.head in
      let rank : length (take (3 + h.rank - 3) (drop 3 s)) ≡ 3 + h.rank - 3 = length_part 3 (3 + h.rank - 3) s (omega arith) in
      let deps : length (take (h.inputs.next - h.rows.next) (drop h.rows.next s)) ≡ h.inputs.next - h.rows.next
      = length_part h.rows.next (h.inputs.next - h.rows.next) s (omega arith) in
      let width : h.rank + 1 ≤ 5 = omega arith in
      let states : h.states.count * (h.rank + 1) ≤ 128 * 5 = mul-le-mul b.states_few width in
      let inputs : h.inputs.count * (h.rank + 1) ≤ 128 * 5 = mul-le-mul b.inputs_few width in
      record { kind_small = omega arith; dense_small = omega arith; count_small = omega arith; extents_few = omega arith; room = omega arith }

  -- its pieces
  pub dense_from : {old new : List ℤ} {w : (Result ℕ Refusal)} →
      EndsIn (given (pieces 0 h.rank (take (3 + h.rank - 3) (drop 3 s)) 0 [] (take (h.inputs.next - h.rows.next) (drop h.rows.next s)))) old w new →
      EndsIn (given (encode (to_dense (layout_in s)))) old w new
  unfolding to_dense gather
  dense_from t =
      let b = lies r in
      let g = r.readable.head in
      let size : 3 + h.rank - 3 ≡ h.rank = omega arith in
      let shape : (layout_in s).shape ≡ part 3 h.rank (view s) = ap (λ (l : Layout). l.shape) (layout_shown r) in
      let rank : length (layout_in s).shape ≡ h.rank = rw shape (length_part 3 h.rank (view s) (rw view_length (omega arith))) in
      let extents : take (3 + h.rank - 3) (drop 3 s) ≡ map pos (layout_in s).shape = lent_pos 3 (3 + h.rank) (omega arith) (omega arith) ∙ rw (size, shape) in
      let deps : take (h.inputs.next - h.rows.next) (drop h.rows.next s) ≡ map pos (section (layout_in s).states ++ section (layout_in s).inputs)
      = lent_pos h.rows.next h.inputs.next (omega arith) (omega arith) ∙ ap (map pos) deps_behind in
      ends_same t (ap given (rw (extents, deps, ← rank) (sym (encode_pieces (to_dense (layout_in s))))))

  -- ---- the rows alone

  pub rows_start : h.rows.first ≤ h.rows.next
  rows_start = let g = r.readable.head in omega arith

  pub rows_end : h.rows.next ≤ length s
  rows_end = let b = lies r in let g = r.readable.head in omega arith

  -- as many numbers
  rows_count : h.rows.next - h.rows.first ≡ h.rows.count * h.width
  rows_count = let g = r.readable.head in omega arith

  rows_long : length (take (h.rows.next - h.rows.first) (drop h.rows.first s)) ≡ h.rows.next - h.rows.first
  unfolding part
  rows_long = let b = lies r in let g = r.readable.head in length_part h.rows.first (h.rows.next - h.rows.first) s (omega arith)

  -- there is room for them
  pub rows_room : (result : List ℤ) → result_size ≤ length result → length (take (h.rows.next - h.rows.first) (drop h.rows.first s)) ≤ length result
  rows_room result l =
      let b = lies r in
      let n = rows_count in
      let width : h.width ≤ 4 = omega arith in
      let most : h.rows.count * h.width ≤ 128 * 4 = mul-le-mul b.rows_few width in
      rw rows_long (omega arith)

  -- a record that is not sparse has none
  data_rows : to_data_layout (layout_in s) ≡ flat (layout_in s).rows
  unfolding to_data_layout gather
  data_rows = by (eqb (layout_in s).kind 2) refl
    where
      by : (t : Bool) → eqb (layout_in s).kind 2 ≡ t → if t (flat (layout_in s).rows) [] ≡ flat (layout_in s).rows
      by true e = refl
      by false e = rw ((layout_sound r).form.sparse_rows (eqb-false (layout_in s).kind 2 e))

  -- the numbers of the rows
  pub rows_from_lem : {old new : List ℤ} → new ≡ over (take (h.rows.next - h.rows.first) (drop h.rows.first s)) old →
      EndsIn (given (map pos (to_data_layout (layout_in s)))) old (Ok (h.rows.next - h.rows.first)) new
  rows_from_lem e =
      let b = lies r in
      let g = r.readable.head in
      let rows : (layout_in s).rows ≡ rows_at h.rows.first h.width h.rows.count s = ap (λ (l : Layout). l.rows) (layout_shown r) in
      let numbers : take (h.rows.next - h.rows.first) (drop h.rows.first s) ≡ map pos (to_data_layout (layout_in s))
      = lent_pos h.rows.first h.rows.next (omega arith) (omega arith)
      ∙ rw (data_rows, rows, rows_part h.rows.first h.width h.rows.count s, rows_count) in
      ends_given (sym (ap length (sym numbers) ∙ rows_long)) (rw numbers at e)

pub ruleset denses = (shape_ends, deps_start, deps_end, dense_room, dense_from)

pub ruleset listed = (rows_start, rows_end, rows_room, rows_from_lem)
