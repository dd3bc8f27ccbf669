-- The pile that a list of records is, a record in each slot; and the text of a pile.
use Rattle.std.specs.Prelude.{List, [], ◌++◌, ℕ, zero, suc, ◌-◌, ℤ, length, take}
use Rattle.rules.specs.Limits.{result_size}
use Rattle.rules.specs.Lists.{if}
use Rattle.rules.specs.Buffers.{zeros}
use Rattle.rules.specs.Record.{behind_record, layout_in, sound}
use Rattle.rules.specs.Pile.{slot_count, slot_at}
use Rattle.record_text.specs.Lines.{layout_text, refused_text}

-- ---- records end to end

-- what stands behind the first n of them
unfoldable pub behind_records : ℕ → List ℤ → List ℤ
behind_records zero s = s
behind_records (suc n) s = behind_record (behind_records n s)

-- the numbers of the record at the front: those before what stands behind it
abbrev pub record_numbers : List ℤ → List ℤ
record_numbers s = take (length s - length (behind_record s)) s

-- a slot with a record at its front, zeros behind it; of a record that is too long, and so not sound, what there is room for
unfoldable pub slot_with : List ℤ → List ℤ
slot_with numbers = take result_size numbers ++ zeros (result_size - length numbers)

-- the first n of them, one in each slot
unfoldable pub pile_of : ℕ → List ℤ → List ℤ
pile_of zero s = []
pile_of (suc n) s = pile_of n s ++ slot_with (record_numbers (behind_records n s))

-- ---- the text of a pile

-- the five lines of the layout in a slot; where no sound record stands there, that it is refused
unfoldable pub slot_text : List ℤ → List ℕ
slot_text slot = if (sound slot) (layout_text (layout_in slot)) (refused_text 3)

-- the first n slots
unfoldable pub slots_text : ℕ → List ℤ → List ℕ
slots_text zero pile = []
slots_text (suc n) pile = slots_text n pile ++ slot_text (slot_at pile n)

abbrev pub pile_text : List ℤ → List ℕ
pile_text pile = slots_text (slot_count pile) pile
