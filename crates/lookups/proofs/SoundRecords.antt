-- The shape of a sound record, as the slice that begins at the count of its extents. Assumes nothing.
use mathlib.Core.Path.{◌≡◌, ap, ◌∙◌}
use mathlib.Core.Bool.{true}
use mathlib.Core.List.{List}
use Prim.Native.Nat.{◌+◌, ◌-◌, ◌*◌, ◌<◌, ◌≤◌}
use native.Mathlib.Nat.{mul-one}
use native.Mathlib.Omega.{arith}
use borrow.Author.Tests.{le-ltb, le-leb}
use lib.IntN.{ℤ, pos, negsuc}
use lib.ListN.{length, get_or, take, drop, length-drop}
use lib.Seq.{get_or-drop, drop-drop}
use lib.Signed.{non_neg}
use Rattle.rules.specs.declared.Head.{Head}
use Rattle.rules.specs.Lists.{all}
use Rattle.rules.specs.Buffers.{part}
use Rattle.rules.specs.Layout.{within_product}
use Rattle.rules.specs.Record.{natural, entries_from, section_at, layout_by, layout_in, shape_in, good_shape}
use Rattle.rules.proofs.RowsRead.{all_part}
use Rattle.axes.specs.Extents.{Extents}
use Rattle.records.specs.Sound.{SoundRecord}
use Rattle.records.proofs.Sections.{other_default}
use Rattle.records.proofs.SoundRecords.{lies, numbers_natural, layout_sound}
use Rattle.records.proofs.EndToEnd.{to_end}
use Rattle.records.proofs.Shown.{record_shape}
use Rattle.shapes.specs.Judged.{Judged}

module _ {h : Head} {s : List ℤ} (r : SoundRecord h s) where
  -- the count of extents stands at the front of the slice
  count_first : (d : ℤ) → get_or (drop 2 s) 0 d ≡ pos h.rank
  count_first d =
      let b = lies r in
      let long : 2 < length s = omega arith in
      get_or-drop 2 s 0 d ∙ other_default s 2 d (pos 0) long ∙ r.readable.head.rank

  -- behind it stand the extents
  extents_behind : part 1 h.rank (drop 2 s) ≡ part 3 h.rank s
  unfolding part
  extents_behind = rw drop-drop

  -- the shape of the slice is that of the layout
  pub shape_shown : shape_in (drop 2 s) ≡ (layout_in s).shape
  unfolding shape_in layout_in layout_by natural
  shape_shown = rw (r.walked, count_first (pos 0), extents_behind)

  -- the slice is a good shape
  pub shape_good : good_shape (drop 2 s) ≡ true
  unfolding good_shape section_at entries_from
  shape_good =
      let b = lies r in
      let room : 1 + h.rank * 1 ≤ length (drop 2 s) = rw (length-drop, mul-one) (omega arith) in
      let natural : all non_neg (part 3 h.rank s) ≡ true = all_part non_neg 3 h.rank h.inputs.next s b.shape_lies_in (numbers_natural r) in
      let within : within_product (shape_in (drop 2 s)) ≡ true =
      rw shape_shown (unfold within_product in le-leb _ _ (layout_sound r).sizes.product_most) in
      rw (count_first (negsuc 0), le-leb (1 + h.rank * 1) (length (drop 2 s)) room, extents_behind, natural, within)

  -- so it is a shape that was judged
  pub shape_judged : Judged (drop 2 s)
  unfolding natural
  shape_judged = let b = lies r in record { small = rw (count_first (pos 0), le-ltb 4 h.rank b.rank_few); good = shape_good }

  -- the same of the slice as it is lent
  pub lent_judged : Judged (take (length s - 2) (drop 2 s))
  lent_judged = rw (to_end 2 s) shape_judged

  pub lent_shape : shape_in (take (length s - 2) (drop 2 s)) ≡ (layout_in s).shape
  lent_shape = ap shape_in (to_end 2 s) ∙ shape_shown

  pub lent_inside : 2 ≤ length s
  lent_inside = let b = lies r in omega arith

  -- its extents as they stand in the record
  pub record_extents : Extents 3 h.rank s
  unfolding within_product
  record_extents = let b = lies r in record { room = omega arith; within = rw (record_shape r) (le-leb _ _ (layout_sound r).sizes.product_most) }

pub ruleset lent = (lent_judged, lent_inside, record_extents)
