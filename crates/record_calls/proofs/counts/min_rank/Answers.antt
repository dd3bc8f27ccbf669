-- `min_rank`: by the first reason that holds.
use borrow.Author.Rules.{rules}
use Rattle.rules.specs.CountsAndForms.{min_rank_call}
use Rattle.rules.specs.Refusals.{number_of}
use Rattle.rules.proofs.HandedOn.{handed_on, was_some, was_none}
use Rattle.records.specs.Sound.{SoundRecord}
use Rattle.records.proofs.SoundRecords.{sound_record}
use Rattle.lookups.proofs.SoundRecords.{lent_judged, lent_inside}
use Rattle.judging.proofs.Judged.{judged}
use Rattle.judging.proofs.SoundRecords.{heads}
use Rattle.record_calls.proofs.Asked.{min_rank_read}
use Rattle.record_calls.proofs.counts.min_rank.Goals.{In_ok-ok_or}
use Rattle.record_calls.proofs.counts.min_rank.Goals as goal

pub returns-then-over_record : goal.returns-then-over_record
unfolding min_rank_call number_of
returns-then-over_record c = search judged

pub returns-in_err-ok_or : goal.returns-in_err-ok_or
unfolding min_rank_call number_of
returns-in_err-ok_or c =
    let none = was_none _ _ c.ok_or.ensures.value c.in_err-ok_or.was in
    rw (handed_on c.from_residual.result c.from_residual.ensures.1, none.1) (search (judged, heads, none.0))

-- the record is sound
sound : (c : In_ok-ok_or) → SoundRecord c.in_ok-ok_or.field-0 c.args.«record».now
sound c = sound_record _ c.sound_head.ensures.is c.sound_head.ensures.readable (was_some _ _ c.ok_or.ensures.value c.in_ok-ok_or.was)

pub slice_bounds-min_rank-count : goal.slice_bounds-min_rank-count
slice_bounds-min_rank-count c = lent_inside (sound (goal.at.slice_bounds-min_rank-count c).In_ok-ok_or)

pub slice_bounds-min_rank-start : goal.slice_bounds-min_rank-start
slice_bounds-min_rank-start c = let inside = lent_inside (sound (goal.at.slice_bounds-min_rank-start c).In_ok-ok_or) in
    search rules

pub min_rank-requires : goal.min_rank-requires
min_rank-requires c = lent_judged (sound (goal.at.min_rank-requires c).In_ok-ok_or)

pub returns : goal.returns
unfolding min_rank_call number_of
returns c =
    let read = sound (goal.at.returns c).In_ok-ok_or in
    let is_sound = read.judged in
    let same = min_rank_read read c.min_rank.ensures in
    search judged
