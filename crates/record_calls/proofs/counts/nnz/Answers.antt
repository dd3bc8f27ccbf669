-- `nnz`: by the first reason that holds.
use Rattle.rules.specs.CountsAndForms.{nnz_call}
use Rattle.rules.specs.Refusals.{number_of}
use Rattle.rules.proofs.HandedOn.{handed_on, was_some, was_none}
use Rattle.records.specs.Sound.{SoundRecord}
use Rattle.records.proofs.SoundRecords.{sound_record}
use Rattle.judging.proofs.Judged.{judged}
use Rattle.judging.proofs.SoundRecords.{heads}
use Rattle.record_calls.proofs.counts.nnz.Goals.{In_ok-head}
use Rattle.record_calls.proofs.counts.nnz.Goals as goal

pub returns-then-over_record : goal.returns-then-over_record
unfolding nnz_call number_of
returns-then-over_record c = search judged

pub returns-in_err-head : goal.returns-in_err-head
unfolding nnz_call number_of
returns-in_err-head c =
    let none = was_none _ _ c.ok_or.ensures.value c.in_err-head.was in
    rw (handed_on c.from_residual.result c.from_residual.ensures.1, none.1) (search (judged, heads, none.0))

-- the record is sound
sound : (c : In_ok-head) → SoundRecord c.in_ok-head.head c.args.«record».now
sound c = sound_record _ c.sound_head.ensures.is c.sound_head.ensures.readable (was_some _ _ c.ok_or.ensures.value c.in_ok-head.was)

pub nnz-requires : goal.nnz-requires
nnz-requires c = sound (goal.at.nnz-requires c).In_ok-head

pub returns : goal.returns
unfolding nnz_call number_of
returns c = let read = (sound (goal.at.returns c).In_ok-head).judged in
    search judged
