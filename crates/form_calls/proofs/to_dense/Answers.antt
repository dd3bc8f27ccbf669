-- `to_dense`: by the first reason that holds.
use Rattle.rules.proofs.HandedOn.{handed_on, was_some, was_none}
use Rattle.records.specs.Sound.{SoundRecord}
use Rattle.judging.proofs.Judged.{judged}
use Rattle.judging.proofs.Results.{ends_refused, ends_stepped, results}
use Rattle.judging.proofs.SoundRecords.{heads}
use Rattle.records.proofs.SoundRecords.{sound_record}
use Rattle.rules.specs.CountsAndForms.{to_dense, to_dense_call}
use Rattle.rules.specs.Layout.{Layout, encode}
use Rattle.rules.specs.Record.{layout_in}
use Rattle.rules.specs.Refusals.{Verdict, given, number_of}
use Rattle.rules.specs.declared.Refusal.TheVariants.{OverCount, ShortBuffer, Unsound}
use borrow.Author.Rules.{rules}
use lib.ListN.{length}
use Rattle.form_calls.proofs.to_dense.Goals.{In_ok-head}
use Rattle.form_calls.proofs.to_dense.Goals as goal

pub returns-then-over_record : goal.returns-then-over_record
unfolding to_dense_call number_of
returns-then-over_record c =
    let call : Verdict Layout = to_dense_call c.args.«record».now (length c.args.res.now) in
    ends_refused encode call OverCount (search (judged, results))

pub returns-then-res-lt-PART : goal.returns-then-res-lt-PART
unfolding to_dense_call number_of
returns-then-res-lt-PART c =
    let call : Verdict Layout = to_dense_call c.args.«record».now (length c.args.res.now) in
    ends_refused encode call ShortBuffer (search (judged, results))

pub returns-in_err-head : goal.returns-in_err-head
unfolding to_dense_call number_of
returns-in_err-head c =
    let none = was_none _ _ c.ok_or.ensures.value c.in_err-head.was in
    let call : Verdict Layout = to_dense_call c.args.«record».now (length c.args.res.now) in
    rw (handed_on c.from_residual.result c.from_residual.ensures.1, none.1)
    (ends_refused encode call Unsound (search (judged, results, heads, none.0)))

-- the record is sound
sound : (c : In_ok-head) → SoundRecord c.in_ok-head.head c.args.«record».now
sound c = sound_record _ c.sound_head.ensures.is c.sound_head.ensures.readable (was_some _ _ c.ok_or.ensures.value c.in_ok-head.was)

pub to_dense-requires : goal.to_dense-requires
to_dense-requires c = record {
  sound_record = sound (goal.at.to_dense-requires c).In_ok-head;
  result_size_in_bounds = search rules;
}

pub returns : goal.returns
unfolding to_dense_call number_of
returns c =
    let read = (sound (goal.at.returns c).In_ok-head).judged in
    let call : Verdict Layout = to_dense_call c.args.«record».now (length c.args.res.now) in
    ends_stepped encode call (given (to_dense (layout_in c.args.«record».now))) c.to_dense.ensures (search (judged, results))
