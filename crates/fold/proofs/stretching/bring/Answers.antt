-- `bring`: a record that stretching does not change is loaded; any other is stretched.
use Rattle.records.specs.Sound.{SoundRecord}
use Rattle.fold.proofs.Bringing.{judged_head, judged_walks, asked_into, loaded_brought}
use Rattle.fold.proofs.stretching.bring.Goals as goal
use Rattle.fold.proofs.stretching.bring.Goals.{In-Some}

-- the head that was walked to is that of a sound record
walked : (c : In-Some) → SoundRecord c.in-Some.head c.args.from.now
walked c = judged_head c.requires.bring_asked.asked.source c.walk_record.ensures c.in-Some.is

pub returns-in_default : goal.returns-in_default
returns-in_default c = absurd (judged_walks c.requires.bring_asked.asked.source c.walk_record.ensures c.in_default.is)

pub is_unchanged-requires : goal.is_unchanged-requires
is_unchanged-requires c = (walked (goal.at.is_unchanged-requires c).In-Some, c.requires.bring_asked.asked.fits)

pub load-requires : goal.load-requires
load-requires c = record {
  sound_record = walked (goal.at.load-requires c).In-Some;
  part_size_in_bounds = c.requires.part_size_in_bounds;
}

pub returns-then-is_unchanged : goal.returns-then-is_unchanged
returns-then-is_unchanged c = loaded_brought c.requires.bring_asked.asked (walked (goal.at.returns-then-is_unchanged c).In-Some) _ c.is_unchanged.ensures c.if-is_unchanged.true c.load.ensures

pub stretch_into-requires : goal.stretch_into-requires
stretch_into-requires c = record {
  stretch_asked = asked_into c.requires.bring_asked.asked (walked (goal.at.stretch_into-requires c).In-Some);
  part_size_in_bounds = c.requires.part_size_in_bounds;
}
