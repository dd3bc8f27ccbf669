-- `judge`: a record that has the shape may be stretched; any other is.
use Rattle.rules.proofs.HandedOn.{was_some, was_none}
use Rattle.records.specs.Sound.{SoundRecord}
use Rattle.fold.proofs.Bringing.{judged_head, judged_walks, asked_into, same_told}
use Rattle.fold.proofs.stretching.judge.Goals as goal
use Rattle.fold.proofs.stretching.judge.Goals.{In_ok-head}

-- the head that was walked to is that of a sound record
walked : (c : In_ok-head) → SoundRecord c.in_ok-head.head c.args.from.now
walked c = judged_head c.requires.stretch_asked.source c.walk_record.ensures (was_some _ _ c.ok_or.ensures.value c.in_ok-head.was)

pub returns-in_err-head : goal.returns-in_err-head
returns-in_err-head c =
    absurd (judged_walks c.requires.stretch_asked.source c.walk_record.ensures (was_none _ _ c.ok_or.ensures.value c.in_err-head.was).0)

pub has_shape-requires : goal.has_shape-requires
has_shape-requires c = (walked (goal.at.has_shape-requires c).In_ok-head, c.requires.stretch_asked.fits)

pub returns-then-has_shape : goal.returns-then-has_shape
returns-then-has_shape c = same_told c.requires.stretch_asked (walked (goal.at.returns-then-has_shape c).In_ok-head) _ c.has_shape.ensures c.if-has_shape.true

pub stretch_into-requires : goal.stretch_into-requires
stretch_into-requires c = record {
  stretch_asked = asked_into c.requires.stretch_asked (walked (goal.at.stretch_into-requires c).In_ok-head);
  part_size_in_bounds = c.requires.part_size_in_bounds;
}
