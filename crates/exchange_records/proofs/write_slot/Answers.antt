-- `write_slot`: no sound record, or its five lines.
use Rattle.rules.specs.Refusals.{number_of}
use Rattle.record_text.proofs.Fronts.{front_is}
use Rattle.exchange_records.proofs.Printing.{slot_refused, slot_lines, slot_sound}
use Rattle.exchange_records.proofs.write_slot.Goals as goal

pub returns-then-not-sound : goal.returns-then-not-sound
unfolding number_of
returns-then-not-sound c = front_is (slot_refused _ c.sound.ensures c.if-not-sound.true-raw) c.write_refusal.ensures

pub write_layout-requires : goal.write_layout-requires
write_layout-requires c = (slot_sound _ c.sound.ensures c.if-not-sound.false-raw, c.requires)

pub returns : goal.returns
returns c = front_is (slot_lines _ c.sound.ensures c.if-not-sound.false-raw) c.write_layout.ensures
