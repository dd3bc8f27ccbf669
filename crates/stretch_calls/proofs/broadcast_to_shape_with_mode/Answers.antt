-- `broadcast_to_shape_with_mode`: what is judged, the step in the first part of the working buffer, and the end of the call.
use Rattle.rules.proofs.HandedOn.{handed_on}
use mathlib.Core.Bool.{Bool, ◌||◌}
use native.Mathlib.Omega.{arith}
use lib.ListN.{length, length-take}
use Rattle.rules.specs.Refusals.{Verdict}
use Rattle.rules.specs.Layout.{Layout}
use Rattle.rules.specs.Record.{layout_in, shape_in, good_shape}
use Rattle.rules.specs.Arguments.{over_record, over_shape}
use Rattle.rules.specs.Stretching.{broadcast_to_shape, mode_of, broadcast_to_shape_with_mode_call}
use Rattle.records.specs.Sound.{SoundRecord}
use Rattle.records.proofs.SoundRecords.{sound_record}
use Rattle.shapes.specs.Judged.{Judged}
use Rattle.judging.specs.LentSizes.{SizesKept}
use Rattle.judging.specs.Judging.{ModeGood, ModeIs}
use Rattle.judging.proofs.Judged.{told_not_true}
use Rattle.judging.proofs.Modes.{mode_handed, mode_good, mode_wrong}
use Rattle.judging.proofs.LentSizes.{told_either}
use Rattle.judging.proofs.RecordCalls.{record_early, record_kept, record_unsound, record_later, record_says, record_done}
use Rattle.stretch_calls.proofs.StretchCalls.{late_shape, wrong, target_wrong, no_mode, none_wrong, judged_shape, shape_asked, shape_said}
use Rattle.stretch_calls.proofs.broadcast_to_shape_with_mode.Goals.{In_ok-judge_sizes, In-Some, Else-not-good_shape, After-judge_mode, In-Some-judge_mode}
use Rattle.stretch_calls.proofs.broadcast_to_shape_with_mode.Goals as goal

pub returns-in_err-judge_sizes : goal.returns-in_err-judge_sizes
unfolding broadcast_to_shape_with_mode_call
returns-in_err-judge_sizes c =
    let over : Bool = over_record c.args.«record».now || over_shape c.args.shape.now in
    let gives : Verdict Layout = broadcast_to_shape (mode_of c.args.mode) (layout_in c.args.«record».now) (shape_in c.args.shape.now) in
    let a = c.args in
    rw (handed_on c.from_residual.result c.from_residual.ensures.1)
    (record_early over (wrong (good_shape a.shape.now) a.mode) gives a.«record».now a.res.now a.work.now
    (told_either (over_record a.«record».now) (over_shape a.shape.now) c.over_record.ensures c.over_shape.ensures c.either-over.ensures) c.judge_sizes.ensures c.in_err-judge_sizes.was)

kept_at : (c : In_ok-judge_sizes) → SizesKept (over_record c.args.«record».now || over_shape c.args.shape.now) (length c.args.res.now) (length c.args.work.now)
kept_at c = let over : Bool = over_record c.args.«record».now || over_shape c.args.shape.now in
    let gives : Verdict Layout = broadcast_to_shape (mode_of c.args.mode) (layout_in c.args.«record».now) (shape_in c.args.shape.now) in
    let a = c.args in
    record_kept over (wrong (good_shape a.shape.now) a.mode) gives a.«record».now a.res.now a.work.now
    (told_either (over_record a.«record».now) (over_shape a.shape.now) c.over_record.ensures c.over_shape.ensures c.either-over.ensures) c.judge_sizes.ensures c.in_ok-judge_sizes.was

judged_at : (c : In-Some) → SoundRecord c.in-Some.head c.args.«record».now
judged_at c = sound_record _ c.sound_head.ensures.is c.sound_head.ensures.readable c.in-Some.is

good_at : (c : Else-not-good_shape) → Judged c.args.shape.now
good_at c = let over : Bool = over_record c.args.«record».now || over_shape c.args.shape.now in
    let gives : Verdict Layout = broadcast_to_shape (mode_of c.args.mode) (layout_in c.args.«record».now) (shape_in c.args.shape.now) in
    let kept : SizesKept (over_record c.args.«record».now || over_shape c.args.shape.now) (length c.args.res.now) (length c.args.work.now) = let over : Bool = over_record c.args.«record».now || over_shape c.args.shape.now in
    let gives : Verdict Layout = broadcast_to_shape (mode_of c.args.mode) (layout_in c.args.«record».now) (shape_in c.args.shape.now) in
    let a = c.args in
    record_kept over (wrong (good_shape a.shape.now) a.mode) gives a.«record».now a.res.now a.work.now
    (told_either (over_record a.«record».now) (over_shape a.shape.now) c.over_record.ensures c.over_shape.ensures c.either-over.ensures) c.judge_sizes.ensures c.in_ok-judge_sizes.was in
    judged_shape (over_record c.args.«record».now) _ kept c.good_shape.ensures c.if-not-good_shape.false-raw

named_at : (c : After-judge_mode) → ModeIs c.args.mode c.judge_mode.result
named_at c = mode_handed _ c.judge_mode.result c.ranges.mode c.judge_mode.ensures

way_at : (c : In-Some-judge_mode) → ModeGood c.args.mode c.in-Some-judge_mode.way
way_at c = let named : ModeIs c.args.mode c.judge_mode.result = mode_handed _ c.judge_mode.result c.ranges.mode c.judge_mode.ensures in
    mode_good _ named c.in-Some-judge_mode.is

pub refuse-requires : goal.refuse-requires
refuse-requires c =
    let kept = kept_at (goal.at.refuse-requires c).In_ok-judge_sizes in
    kept.work_long

pub returns-in_default : goal.returns-in_default
unfolding broadcast_to_shape_with_mode_call
returns-in_default c =
    let over : Bool = over_record c.args.«record».now || over_shape c.args.shape.now in
    let gives : Verdict Layout = broadcast_to_shape (mode_of c.args.mode) (layout_in c.args.«record».now) (shape_in c.args.shape.now) in
    let kept = kept_at (goal.at.returns-in_default c).In_ok-judge_sizes in
    let a = c.args in
    record_unsound over (wrong (good_shape a.shape.now) a.mode) gives a.«record».now a.res.now a.work.now
    kept (omega arith, tt) c.sound_head.ensures.is c.in_default.is c.refuse.ensures

pub refuse-requires-then-not-good_shape : goal.refuse-requires-then-not-good_shape
refuse-requires-then-not-good_shape c =
    let kept = kept_at (goal.at.refuse-requires-then-not-good_shape c).In_ok-judge_sizes in
    kept.work_long

pub returns-then-not-good_shape : goal.returns-then-not-good_shape
unfolding broadcast_to_shape_with_mode_call
returns-then-not-good_shape c =
    let over : Bool = over_record c.args.«record».now || over_shape c.args.shape.now in
    let gives : Verdict Layout = broadcast_to_shape (mode_of c.args.mode) (layout_in c.args.«record».now) (shape_in c.args.shape.now) in
    let kept = kept_at (goal.at.returns-then-not-good_shape c).In_ok-judge_sizes in
    let judged = judged_at (goal.at.returns-then-not-good_shape c).In-Some in
    let a = c.args in
    record_later over (wrong (good_shape a.shape.now) a.mode) gives a.«record».now a.res.now a.work.now kept (omega arith, tt) judged
    (target_wrong (good_shape a.shape.now) a.mode (told_not_true (good_shape a.shape.now) c.good_shape.ensures c.if-not-good_shape.true-raw))
    c.refuse-then-not-good_shape.ensures

pub refuse-requires-in_default-judge_mode : goal.refuse-requires-in_default-judge_mode
refuse-requires-in_default-judge_mode c =
    let kept = kept_at (goal.at.refuse-requires-in_default-judge_mode c).In_ok-judge_sizes in
    kept.work_long

pub returns-in_default-judge_mode : goal.returns-in_default-judge_mode
unfolding broadcast_to_shape_with_mode_call
returns-in_default-judge_mode c =
    let over : Bool = over_record c.args.«record».now || over_shape c.args.shape.now in
    let gives : Verdict Layout = broadcast_to_shape (mode_of c.args.mode) (layout_in c.args.«record».now) (shape_in c.args.shape.now) in
    let kept = kept_at (goal.at.returns-in_default-judge_mode c).In_ok-judge_sizes in
    let judged = judged_at (goal.at.returns-in_default-judge_mode c).In-Some in
    let good = good_at (goal.at.returns-in_default-judge_mode c).Else-not-good_shape in
    let named = named_at (goal.at.returns-in_default-judge_mode c).After-judge_mode in
    let a = c.args in
    record_later over (wrong (good_shape a.shape.now) a.mode) gives a.«record».now a.res.now a.work.now kept (omega arith, tt) judged
    (no_mode (good_shape a.shape.now) a.mode good.good (mode_wrong _ named c.in_default-judge_mode.is))
    c.refuse-in_default-judge_mode.ensures

pub rank-rank-requires : goal.rank-rank-requires
rank-rank-requires c =
    let good = good_at (goal.at.rank-rank-requires c).Else-not-good_shape in
    good

pub slice_bounds-stretch_into-end : goal.slice_bounds-stretch_into-end
slice_bounds-stretch_into-end c =
    let kept = kept_at (goal.at.slice_bounds-stretch_into-end c).In_ok-judge_sizes in
    omega (arith, kept.work_long)

pub stretch_into-step-requires : goal.stretch_into-step-requires
stretch_into-step-requires c =
    let kept = kept_at (goal.at.stretch_into-step-requires c).In_ok-judge_sizes in
    let judged = judged_at (goal.at.stretch_into-step-requires c).In-Some in
    let good = good_at (goal.at.stretch_into-step-requires c).Else-not-good_shape in record {
      stretch_asked = shape_asked judged good c.rank-rank.ensures;
      part_size_in_bounds = simp length-take (omega (arith, kept.work_long));
    }

pub finish-requires : goal.finish-requires
finish-requires c =
    let over : Bool = over_record c.args.«record».now || over_shape c.args.shape.now in
    let gives : Verdict Layout = broadcast_to_shape (mode_of c.args.mode) (layout_in c.args.«record».now) (shape_in c.args.shape.now) in
    let kept = kept_at (goal.at.finish-requires c).In_ok-judge_sizes in
    let judged = judged_at (goal.at.finish-requires c).In-Some in
    let good = good_at (goal.at.finish-requires c).Else-not-good_shape in
    let way = way_at (goal.at.finish-requires c).In-Some-judge_mode in
    let a = c.args in
    let k = kept in record {
      work_size_in_bounds = (omega (arith, c.work-2-1.given.1, k.work_long), k.result_long);
      holds = (record_says over (wrong (good_shape a.shape.now) a.mode) gives a.«record».now a.res.now a.work.now k (omega arith, tt) judged c.work-2-1.given.0
          (shape_said judged good c.rank-rank.ensures way c.stretch_into-step.ensures)).holds;
    }

pub returns : goal.returns
unfolding broadcast_to_shape_with_mode_call
returns c =
    let over : Bool = over_record c.args.«record».now || over_shape c.args.shape.now in
    let gives : Verdict Layout = broadcast_to_shape (mode_of c.args.mode) (layout_in c.args.«record».now) (shape_in c.args.shape.now) in
    let kept = kept_at (goal.at.returns c).In_ok-judge_sizes in
    let judged = judged_at (goal.at.returns c).In-Some in
    let good = good_at (goal.at.returns c).Else-not-good_shape in
    let way = way_at (goal.at.returns c).In-Some-judge_mode in
    let a = c.args in
    record_done over (wrong (good_shape a.shape.now) a.mode) gives a.«record».now a.res.now a.work.now kept (omega arith, tt) judged c.work-2-1.given.0
    (shape_said judged good c.rank-rank.ensures way c.stretch_into-step.ensures)
    (none_wrong (good_shape a.shape.now) a.mode good.good way) (late_shape _ _ _) c.finish.ensures
