-- The record of a layout in a slice of signed numbers: walked, judged and read.
use Rattle.std.specs.Prelude.{None, Option, Some}
use Rattle.std.specs.Prelude.{Bool, false, ◌&&◌, List, [], ◌∷◌, map, ℕ, zero, suc, min, ◌+◌, ◌*◌, length, get_or, take, drop, replicate, leb, ltb, ℤ, pos, negsuc, ◌-ℤ◌}
use Rattle.std.specs.Int.Signed.{non_neg}
use Rattle.rules.specs.declared.Entries.{Entries}
use Rattle.rules.specs.declared.Head.{Head}
use Rattle.rules.specs.Limits.{list_limit, entry_limit}
use Rattle.rules.specs.Lists.{if, all}
use Rattle.rules.specs.Buffers.{part}
use Rattle.rules.specs.RowsInOrder.{increasing}
use Rattle.rules.specs.Layout.{Layout, sound_layout, within_product}

-- ---- walking

-- n entries of w numbers each from f on, if they end in a slice of so many numbers; a negative count cannot be walked
unfoldable pub entries_from : ℕ → ℕ → ℕ → ℤ → Option Entries
entries_from size w f (pos n) = if (leb (f + n * w) size) (Some (record { count = n; first = f; next = f + n * w })) None
entries_from size w f (negsuc n) = None

-- the section whose count stands at i; where nothing stands there, it is cut off
unfoldable pub section_at : ℕ → ℕ → List ℤ → Option Entries
section_at i w s = entries_from (length s) w (i + 1) (get_or s i (negsuc 0))

abbrev pub after : Option Entries → (Entries → (Option Head)) → Option Head
after (Some e) next = next e
after None next = None

-- R - D, which cannot be negative
abbrev pub width_by : ℤ → (ℕ → (Option Head)) → Option Head
width_by (pos w) next = next w
width_by (negsuc n) next = None

-- kind and D, then extents, rows of R - D numbers, state and input dependencies of R + 1 numbers
unfoldable pub walk : List ℤ → Option Head
walk s =
    after (section_at 2 1 s) λ extents.
    let r : ℕ = extents.count in
    width_by (pos r -ℤ get_or s 1 (pos 0)) λ w.
    after (section_at extents.next w s) λ rows.
    after (section_at rows.next (r + 1) s) λ states.
    after (section_at states.next (r + 1) s) λ inputs.
    Some (record {
      kind = get_or s 0 (pos 0);
      dense = get_or s 1 (pos 0);
      rank = r;
      width = w;
      rows = rows;
      states = states;
      inputs = inputs;
    })

-- ---- reading

-- a number as a natural one; a record that has a negative number is not sound, so that what is read there does not matter
unfoldable pub natural : ℤ → ℕ
natural (pos n) = n
natural (negsuc n) = 0

abbrev pub naturals : List ℤ → List ℕ
naturals s = map natural s

-- n rows of w numbers each
unfoldable pub rows_of : ℕ → ℕ → List ℕ → List (List ℕ)
rows_of w zero s = []
rows_of w (suc n) s = take w s ∷ rows_of w n (drop w s)

-- n entries of w numbers each; those of no numbers are all alike, and one above the limit is too many already
unfoldable pub entries_of : ℕ → ℕ → List ℕ → List (List ℕ)
entries_of zero n s = replicate (min n (suc entry_limit)) []
entries_of (suc w) n s = rows_of (suc w) n s

-- the entries of a section
abbrev pub entries_in : ℕ → Entries → List ℤ → List (List ℕ)
entries_in w e s = entries_of w e.count (naturals (drop e.first s))

-- the layout that a walked record describes
unfoldable pub layout_by : Head → List ℤ → Layout
layout_by h s = record {
  kind = natural h.kind;
  dense = natural h.dense;
  shape = naturals (part 3 h.rank s);
  rows = entries_in h.width h.rows s;
  states = entries_in (suc h.rank) h.states s;
  inputs = entries_in (suc h.rank) h.inputs s;
}

-- the layout without axes that a broken record is read as; no call gets that far with one
abbrev pub nowhere : Layout
nowhere = record { kind = 0; dense = 0; shape = []; rows = []; states = []; inputs = [] }

abbrev pub layout_from : Option Head → List ℤ → Layout
layout_from (Some h) s = layout_by h s
layout_from None s = nowhere

unfoldable pub layout_in : List ℤ → Layout
layout_in s = layout_from (walk s) s

-- ---- soundness

-- a record that lies in its slice is sound if none of its numbers is negative and its layout is sound
abbrev pub sound_from : Option Head → List ℤ → Bool
sound_from (Some h) s = all non_neg (take h.inputs.next s) && sound_layout (layout_by h s)
sound_from None s = false

unfoldable pub sound : List ℤ → Bool
sound s = sound_from (walk s) s

-- a sound record is ordered if its rows strictly increase
unfoldable pub ordered : List ℤ → Bool
ordered s = sound s && increasing (layout_in s).rows

-- the part of the record that is its row n
abbrev pub row_part : ℕ → Option Head → List ℤ → List ℤ
row_part n (Some h) s = if (ltb n h.rows.count) (part (h.rows.first + n * h.width) h.width s) []
row_part n None s = []

-- asked for a row by number: that very part, or the empty part where there is no such row or the record is not sound
unfoldable pub row : List ℤ → ℤ → List ℤ
row s (pos n) = if (sound s) (row_part n (walk s) s) []
row s (negsuc n) = []

-- where that part begins in the slice; an empty part is the one at the front
abbrev pub row_start : ℕ → Option Head → ℕ
row_start n (Some h) = if (ltb n h.rows.count) (h.rows.first + n * h.width) 0
row_start n None = 0

unfoldable pub row_place : List ℤ → ℤ → ℕ
row_place s (pos n) = if (sound s) (row_start n (walk s)) 0
row_place s (negsuc n) = 0

-- ---- lists: things end to end; one that is not walkable takes the rest, and those after it are empty parts

abbrev pub rest_from : Option Head → List ℤ → List ℤ
rest_from (Some h) s = drop h.inputs.next s
rest_from None s = []

-- what stands behind the record
unfoldable pub behind_record : List ℤ → List ℤ
behind_record s = rest_from (walk s) s

abbrev pub rest_after : Option Entries → List ℤ → List ℤ
rest_after (Some e) s = drop e.next s
rest_after None s = []

-- what stands behind the shape
unfoldable pub behind_shape : List ℤ → List ℤ
behind_shape s = rest_after (section_at 0 1 s) s

-- the slices at which each of n things begins
unfoldable pub end_to_end : (List ℤ → List ℤ) → ℕ → List ℤ → List (List ℤ)
end_to_end behind zero s = []
end_to_end behind (suc n) s = s ∷ end_to_end behind n (behind s)

-- a count of things in a list; one outside 0..16 is refused, and nothing of the list is read
unfoldable pub list_count : ℤ → ℕ
list_count (pos n) = if (leb n list_limit) n 0
list_count (negsuc n) = 0

abbrev pub records_in : ℤ → List ℤ → List (List ℤ)
records_in n s = end_to_end behind_record (list_count n) s

abbrev pub shapes_in : ℤ → List ℤ → List (List ℤ)
shapes_in n s = end_to_end behind_shape (list_count n) s

-- ---- shapes

-- a shape is its count and extents
unfoldable pub shape_in : List ℤ → List ℕ
shape_in s = naturals (part 1 (natural (get_or s 0 (pos 0))) s)

abbrev pub good_extents : Option Entries → List ℤ → Bool
good_extents (Some e) s = all non_neg (part 1 e.count s) && within_product (shape_in s)
good_extents None s = false

-- a shape obeys the extent rules: all there, none negative, the product of the nonzero ones within the limit
unfoldable pub good_shape : List ℤ → Bool
good_shape s = good_extents (section_at 0 1 s) s

-- ---- blocks

-- a block is its start (as many numbers as the asked rank), its flag and its record
pub record RawBlock : Type 0 where
  pub start : List ℤ
  pub flag : ℤ
  pub layout : List ℤ

-- the block at the front of a slice; in one that is cut off no record is there
unfoldable pub block_at : ℕ → List ℤ → RawBlock
block_at r s = record { start = take r s; flag = get_or s r (pos 0); layout = drop (suc r) s }

unfoldable pub behind_block : ℕ → List ℤ → List ℤ
behind_block r s = behind_record (drop (suc r) s)

-- the blocks of a list; by a negative rank none can be walked
unfoldable pub blocks_in : ℤ → ℤ → List ℤ → List RawBlock
blocks_in n (pos r) s = map (block_at r) (end_to_end (behind_block r) (list_count n) s)
blocks_in n (negsuc r) s = map (block_at 0) (replicate (list_count n) [])
