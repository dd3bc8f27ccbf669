-- `permute`: what is judged, the step in the first part of the working buffer, and the end of the call.
use Rattle.rules.proofs.HandedOn.{handed_on}
use mathlib.Core.List.{[]}
use native.Mathlib.Omega.{arith}
use lib.ListN.{length, length-take}
use Rattle.rules.specs.Record.{layout_in}
use Rattle.rules.specs.Arguments.{over_record}
use Rattle.rules.specs.Permute.{permute as permute_rule, permute_call}
use Rattle.rules.proofs.RefusedWith.{permute_refusing}
use Rattle.records.specs.Sound.{SoundRecord}
use Rattle.records.proofs.SoundRecords.{sound_record}
use Rattle.parts.proofs.Ending.{AboveTwo}
use Rattle.judging.specs.LentSizes.{SizesKept}
use Rattle.judging.proofs.RecordCalls.{record_early, record_kept, record_unsound, record_says, record_done}
use Rattle.judging.proofs.Endings.{nothing_more}
use Rattle.reshape_calls.proofs.permute.Goals.{In_ok-judge_sizes}
use Rattle.reshape_calls.proofs.permute.Goals as goal

pub returns-in_err-judge_sizes : goal.returns-in_err-judge_sizes
unfolding permute_call
returns-in_err-judge_sizes c = let a = c.args in
    rw (handed_on c.from_residual.result c.from_residual.ensures.1)
    (record_early (over_record a.«record».now) [] (permute_rule (layout_in a.«record».now) a.permutation.now) a.«record».now a.res.now a.work.now c.over_record-over.ensures c.judge_sizes.ensures c.in_err-judge_sizes.was)

kept_at : (c : In_ok-judge_sizes) → SizesKept (over_record c.args.«record».now) (length c.args.res.now) (length c.args.work.now)
kept_at c = let a = c.args in
    record_kept (over_record a.«record».now) [] (permute_rule (layout_in a.«record».now) a.permutation.now) a.«record».now a.res.now a.work.now c.over_record-over.ensures c.judge_sizes.ensures c.in_ok-judge_sizes.was

pub refuse-requires : goal.refuse-requires
refuse-requires c =
    let kept = kept_at (goal.at.refuse-requires c).In_ok-judge_sizes in
    kept.work_long

pub returns-in_default : goal.returns-in_default
unfolding permute_call
returns-in_default c =
    let kept = kept_at (goal.at.returns-in_default c).In_ok-judge_sizes in
    let a = c.args in
    record_unsound (over_record a.«record».now) [] (permute_rule (layout_in a.«record».now) a.permutation.now) a.«record».now a.res.now a.work.now kept tt c.sound_head.ensures.is c.in_default.is c.refuse.ensures

pub slice_bounds-permute_into-end : goal.slice_bounds-permute_into-end
slice_bounds-permute_into-end c =
    let kept = kept_at (goal.at.slice_bounds-permute_into-end c).In_ok-judge_sizes in
    omega (arith, kept.work_long)

pub permute_into-step-requires : goal.permute_into-step-requires
permute_into-step-requires c =
    let kept = kept_at (goal.at.permute_into-step-requires c).In_ok-judge_sizes in
    let judged : SoundRecord c.in-Some.head c.args.«record».now = sound_record _ c.sound_head.ensures.is c.sound_head.ensures.readable c.in-Some.is in record {
      sound_record = judged;
      part_size_in_bounds = simp length-take (omega (arith, kept.work_long));
    }

pub finish-requires : goal.finish-requires
finish-requires c =
    let kept = kept_at (goal.at.finish-requires c).In_ok-judge_sizes in
    let judged : SoundRecord c.in-Some.head c.args.«record».now = sound_record _ c.sound_head.ensures.is c.sound_head.ensures.readable c.in-Some.is in
    let a = c.args in
    let k = kept in record {
      work_size_in_bounds = (omega (arith, c.work-2-1.given.1, k.work_long), k.result_long);
      holds = (record_says (over_record a.«record».now) [] (permute_rule (layout_in a.«record».now) a.permutation.now) a.«record».now a.res.now a.work.now k tt judged c.work-2-1.given.0 c.permute_into-step.ensures).holds;
    }

pub returns : goal.returns
unfolding permute_call
returns c =
    let kept = kept_at (goal.at.returns c).In_ok-judge_sizes in
    let judged : SoundRecord c.in-Some.head c.args.«record».now = sound_record _ c.sound_head.ensures.is c.sound_head.ensures.readable c.in-Some.is in
    let a = c.args in
    record_done (over_record a.«record».now) [] (permute_rule (layout_in a.«record».now) a.permutation.now) a.«record».now a.res.now a.work.now kept tt judged c.work-2-1.given.0 c.permute_into-step.ensures
    nothing_more (permute_refusing AboveTwo (omega arith) (omega arith) (omega arith) (omega arith) _ a.permutation.now) c.finish.ensures
