-- `broadcast_to_rank_with_mode`: what is judged, the step in the first part of the working buffer, and the end of the call.
use Rattle.rules.proofs.HandedOn.{handed_on}
use mathlib.Core.Bool.{Bool, true, ◌||◌}
use mathlib.Core.Path.{◌≡◌, ap, ◌∙◌}
use Prim.Native.Nat.{◌≤◌}
use native.Mathlib.Omega.{arith}
use lib.ListN.{length, length-take}
use lib.Signed.{non_neg}
use mir.Syntax.{w32}
use mir.ValLaws.{to_z-of_z}
use Rattle.rules.specs.Refusals.{Verdict}
use Rattle.rules.specs.Layout.{Layout}
use Rattle.rules.specs.Record.{natural, layout_in}
use Rattle.rules.specs.Arguments.{over_record, over_rank}
use Rattle.rules.specs.Stretching.{broadcast_to_rank, mode_of, broadcast_to_rank_with_mode_call}
use Rattle.rules.proofs.Same.{neither}
use Rattle.cells.specs.View.{sign_of}
use Rattle.records.specs.Sound.{SoundRecord}
use Rattle.records.proofs.SoundRecords.{sound_record}
use Rattle.shapes.proofs.Reading.{handed_over, as_natural, sign_natural, sign_negative}
use Rattle.judging.specs.LentSizes.{SizesKept}
use Rattle.judging.specs.Judging.{ModeGood, ModeIs}
use Rattle.judging.proofs.Results.{rank_few}
use Rattle.judging.proofs.Modes.{mode_handed, mode_good, mode_wrong}
use Rattle.judging.proofs.LentSizes.{told_either}
use Rattle.judging.proofs.RecordCalls.{record_early, record_kept, record_unsound, record_later, record_says, record_done}
use Rattle.stretch_calls.proofs.StretchCalls.{late_rank, wrong, target_wrong, no_mode, none_wrong, rank_said}
use Rattle.stretch_calls.proofs.broadcast_to_rank_with_mode.Goals.{In_ok-judge_sizes, In-Some, After-sign_of, In-Some-sign_of, After-judge_mode, In-Some-judge_mode}
use Rattle.stretch_calls.proofs.broadcast_to_rank_with_mode.Goals as goal

pub returns-in_err-judge_sizes : goal.returns-in_err-judge_sizes
unfolding broadcast_to_rank_with_mode_call
returns-in_err-judge_sizes c =
    let over : Bool = over_record c.args.«record».now || over_rank c.args.rank in
    let gives : Verdict Layout = broadcast_to_rank (mode_of c.args.mode) (layout_in c.args.«record».now) (natural c.args.rank) in
    let over-told : c.over_rank.result ≡ over_rank c.args.rank = c.over_rank.ensures ∙ ap over_rank (to_z-of_z w32 _ c.ranges.rank) in
    let a = c.args in
    rw (handed_on c.from_residual.result c.from_residual.ensures.1)
    (record_early over (wrong (non_neg a.rank) a.mode) gives a.«record».now a.res.now a.work.now
    (told_either (over_record a.«record».now) (over_rank a.rank) c.over_record.ensures over-told c.either-over.ensures) c.judge_sizes.ensures c.in_err-judge_sizes.was)

kept_at : (c : In_ok-judge_sizes) → SizesKept (over_record c.args.«record».now || over_rank c.args.rank) (length c.args.res.now) (length c.args.work.now)
kept_at c = let over : Bool = over_record c.args.«record».now || over_rank c.args.rank in
    let gives : Verdict Layout = broadcast_to_rank (mode_of c.args.mode) (layout_in c.args.«record».now) (natural c.args.rank) in
    let over-told : c.over_rank.result ≡ over_rank c.args.rank = c.over_rank.ensures ∙ ap over_rank (to_z-of_z w32 _ c.ranges.rank) in
    let a = c.args in
    record_kept over (wrong (non_neg a.rank) a.mode) gives a.«record».now a.res.now a.work.now
    (told_either (over_record a.«record».now) (over_rank a.rank) c.over_record.ensures over-told c.either-over.ensures) c.judge_sizes.ensures c.in_ok-judge_sizes.was

judged_at : (c : In-Some) → SoundRecord c.in-Some.head c.args.«record».now
judged_at c = sound_record _ c.sound_head.ensures.is c.sound_head.ensures.readable c.in-Some.is

sign_at : (c : After-sign_of) → c.sign_of.result ≡ sign_of c.args.rank
sign_at c = handed_over _ c.ranges.rank c.sign_of.ensures.is

fits_at : (c : In-Some-sign_of) → non_neg c.args.rank ≡ true
fits_at c = let sign : c.sign_of.result ≡ sign_of c.args.rank = handed_over _ c.ranges.rank c.sign_of.ensures.is in
    sign_natural _ sign c.in-Some-sign_of.is

named_at : (c : After-judge_mode) → ModeIs c.args.mode c.judge_mode.result
named_at c = mode_handed _ c.judge_mode.result c.ranges.mode c.judge_mode.ensures

way_at : (c : In-Some-judge_mode) → ModeGood c.args.mode c.in-Some-judge_mode.way
way_at c = let named : ModeIs c.args.mode c.judge_mode.result = mode_handed _ c.judge_mode.result c.ranges.mode c.judge_mode.ensures in
    mode_good _ named c.in-Some-judge_mode.is

pub refuse-requires : goal.refuse-requires
refuse-requires c =
    let kept = kept_at (goal.at.refuse-requires c).In_ok-judge_sizes in
    kept.work_long

pub returns-in_default : goal.returns-in_default
unfolding broadcast_to_rank_with_mode_call
returns-in_default c =
    let over : Bool = over_record c.args.«record».now || over_rank c.args.rank in
    let gives : Verdict Layout = broadcast_to_rank (mode_of c.args.mode) (layout_in c.args.«record».now) (natural c.args.rank) in
    let kept = kept_at (goal.at.returns-in_default c).In_ok-judge_sizes in
    let a = c.args in
    record_unsound over (wrong (non_neg a.rank) a.mode) gives a.«record».now a.res.now a.work.now
    kept (omega arith, tt) c.sound_head.ensures.is c.in_default.is c.refuse.ensures

pub refuse-requires-in_default-sign_of : goal.refuse-requires-in_default-sign_of
refuse-requires-in_default-sign_of c =
    let kept = kept_at (goal.at.refuse-requires-in_default-sign_of c).In_ok-judge_sizes in
    kept.work_long

pub returns-in_default-sign_of : goal.returns-in_default-sign_of
unfolding broadcast_to_rank_with_mode_call
returns-in_default-sign_of c =
    let over : Bool = over_record c.args.«record».now || over_rank c.args.rank in
    let gives : Verdict Layout = broadcast_to_rank (mode_of c.args.mode) (layout_in c.args.«record».now) (natural c.args.rank) in
    let kept = kept_at (goal.at.returns-in_default-sign_of c).In_ok-judge_sizes in
    let judged = judged_at (goal.at.returns-in_default-sign_of c).In-Some in
    let sign = sign_at (goal.at.returns-in_default-sign_of c).After-sign_of in
    let a = c.args in
    record_later over (wrong (non_neg a.rank) a.mode) gives a.«record».now a.res.now a.work.now kept (omega arith, tt) judged
    (target_wrong (non_neg a.rank) a.mode (sign_negative _ sign c.in_default-sign_of.is))
    c.refuse-in_default-sign_of.ensures

pub refuse-requires-in_default-judge_mode : goal.refuse-requires-in_default-judge_mode
refuse-requires-in_default-judge_mode c =
    let kept = kept_at (goal.at.refuse-requires-in_default-judge_mode c).In_ok-judge_sizes in
    kept.work_long

pub returns-in_default-judge_mode : goal.returns-in_default-judge_mode
unfolding broadcast_to_rank_with_mode_call
returns-in_default-judge_mode c =
    let over : Bool = over_record c.args.«record».now || over_rank c.args.rank in
    let gives : Verdict Layout = broadcast_to_rank (mode_of c.args.mode) (layout_in c.args.«record».now) (natural c.args.rank) in
    let kept = kept_at (goal.at.returns-in_default-judge_mode c).In_ok-judge_sizes in
    let judged = judged_at (goal.at.returns-in_default-judge_mode c).In-Some in
    let fits = fits_at (goal.at.returns-in_default-judge_mode c).In-Some-sign_of in
    let named = named_at (goal.at.returns-in_default-judge_mode c).After-judge_mode in
    let a = c.args in
    record_later over (wrong (non_neg a.rank) a.mode) gives a.«record».now a.res.now a.work.now kept (omega arith, tt) judged
    (no_mode (non_neg a.rank) a.mode fits (mode_wrong _ named c.in_default-judge_mode.is))
    c.refuse-in_default-judge_mode.ensures

pub slice_bounds-stretch_to_rank-end : goal.slice_bounds-stretch_to_rank-end
slice_bounds-stretch_to_rank-end c =
    let kept = kept_at (goal.at.slice_bounds-stretch_to_rank-end c).In_ok-judge_sizes in
    omega (arith, kept.work_long)

pub stretch_to_rank-step-requires : goal.stretch_to_rank-step-requires
stretch_to_rank-step-requires c =
    let kept = kept_at (goal.at.stretch_to_rank-step-requires c).In_ok-judge_sizes in
    let judged = judged_at (goal.at.stretch_to_rank-step-requires c).In-Some in
    let sign = sign_at (goal.at.stretch_to_rank-step-requires c).After-sign_of in
    let few : c.in-Some-sign_of.axes ≤ 4 = rank_few _ sign c.in-Some-sign_of.is (neither (over_record c.args.«record».now) (over_rank c.args.rank) kept.not_over).1 in record {
      sound_record = (judged, few);
      part_size_in_bounds = simp length-take (omega (arith, kept.work_long));
    }

pub finish-requires : goal.finish-requires
finish-requires c =
    let over : Bool = over_record c.args.«record».now || over_rank c.args.rank in
    let gives : Verdict Layout = broadcast_to_rank (mode_of c.args.mode) (layout_in c.args.«record».now) (natural c.args.rank) in
    let kept = kept_at (goal.at.finish-requires c).In_ok-judge_sizes in
    let judged = judged_at (goal.at.finish-requires c).In-Some in
    let sign = sign_at (goal.at.finish-requires c).After-sign_of in
    let way = way_at (goal.at.finish-requires c).In-Some-judge_mode in
    let a = c.args in
    let k = kept in record {
      work_size_in_bounds = (omega (arith, c.work-2-1.given.1, k.work_long), k.result_long);
      holds = (record_says over (wrong (non_neg a.rank) a.mode) gives a.«record».now a.res.now a.work.now k (omega arith, tt) judged c.work-2-1.given.0
          (rank_said (layout_in a.«record».now) (as_natural _ sign c.in-Some-sign_of.is) way c.stretch_to_rank-step.ensures)).holds;
    }

pub returns : goal.returns
unfolding broadcast_to_rank_with_mode_call
returns c =
    let over : Bool = over_record c.args.«record».now || over_rank c.args.rank in
    let gives : Verdict Layout = broadcast_to_rank (mode_of c.args.mode) (layout_in c.args.«record».now) (natural c.args.rank) in
    let kept = kept_at (goal.at.returns c).In_ok-judge_sizes in
    let judged = judged_at (goal.at.returns c).In-Some in
    let sign = sign_at (goal.at.returns c).After-sign_of in
    let fits = fits_at (goal.at.returns c).In-Some-sign_of in
    let way = way_at (goal.at.returns c).In-Some-judge_mode in
    let a = c.args in
    record_done over (wrong (non_neg a.rank) a.mode) gives a.«record».now a.res.now a.work.now kept (omega arith, tt) judged c.work-2-1.given.0
    (rank_said (layout_in a.«record».now) (as_natural _ sign c.in-Some-sign_of.is) way c.stretch_to_rank-step.ensures)
    (none_wrong (non_neg a.rank) a.mode fits way) (late_rank _ _ _) c.finish.ensures
