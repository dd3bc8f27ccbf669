-- `filter_deps_from`: what is judged, the step in the first part of the working buffer, and the end of the call.
use Rattle.rules.proofs.HandedOn.{handed_on}
use mathlib.Core.Path.{◌∙◌}
use mathlib.Core.Bool.{◌||◌}
use native.Mathlib.Omega.{arith}
use lib.ListN.{length, length-take}
use Rattle.rules.specs.Arguments.{over_record}
use Rattle.rules.specs.FilterDepsFrom.{filter_deps_from_call}
use Rattle.records.specs.Sound.{SoundRecord}
use Rattle.records.proofs.SoundRecords.{sound_record}
use Rattle.judging.specs.LentSizes.{SizesKept}
use Rattle.judging.specs.Judging.{RangeGood, RangeIs}
use Rattle.judging.proofs.Judged.{argument_wrong, not_fails}
use Rattle.judging.proofs.RangeEnds.{range_within, range_wrong}
use Rattle.judging.proofs.PairCalls.{pair_early, pair_kept, pair_late, pair_late_first, pair_late_second}
use Rattle.judging.proofs.SoundRecords.{pair_passed}
use Rattle.pair_calls.proofs.Filters.{filter_of, range_handed, range_reasons, filter_says, filter_done}
use Rattle.pair_calls.proofs.filter.filter_deps_from.Goals.{In_ok-judge_sizes}
use Rattle.pair_calls.proofs.filter.filter_deps_from.Goals as goal

pub returns-in_err-judge_sizes : goal.returns-in_err-judge_sizes
unfolding filter_deps_from_call
returns-in_err-judge_sizes c = let a = c.args in
    rw (handed_on c.from_residual.result c.from_residual.ensures.1)
    (pair_early (filter_of a.start a.end) (range_reasons a.start a.end) a.target.now a.source.now a.res.now a.work.now c.over_record.ensures c.over_record-2.ensures c.either-over.ensures c.judge_sizes.ensures c.in_err-judge_sizes.was)

kept_at : (c : In_ok-judge_sizes) → SizesKept (over_record c.args.target.now || over_record c.args.source.now) (length c.args.res.now) (length c.args.work.now)
kept_at c = let a = c.args in
    pair_kept (filter_of a.start a.end) (range_reasons a.start a.end) a.target.now a.source.now a.res.now a.work.now c.over_record.ensures c.over_record-2.ensures c.either-over.ensures c.judge_sizes.ensures c.in_ok-judge_sizes.was

pub refuse-requires : goal.refuse-requires
refuse-requires c =
    let kept = kept_at (goal.at.refuse-requires c).In_ok-judge_sizes in
    kept.work_long

pub returns-in_default : goal.returns-in_default
unfolding filter_deps_from_call
returns-in_default c =
    let kept = kept_at (goal.at.returns-in_default c).In_ok-judge_sizes in
    let a = c.args in
    pair_late_first (filter_of a.start a.end) (range_reasons a.start a.end) a.target.now a.source.now a.res.now a.work.now kept (omega arith, tt) c.sound_head.ensures.is c.in_default.is c.refuse.ensures

pub refuse-requires-in_default-sound_head : goal.refuse-requires-in_default-sound_head
refuse-requires-in_default-sound_head c =
    let kept = kept_at (goal.at.refuse-requires-in_default-sound_head c).In_ok-judge_sizes in
    kept.work_long

pub returns-in_default-sound_head : goal.returns-in_default-sound_head
unfolding filter_deps_from_call
returns-in_default-sound_head c =
    let kept = kept_at (goal.at.returns-in_default-sound_head c).In_ok-judge_sizes in
    let a = c.args in
    pair_late_second (filter_of a.start a.end) (range_reasons a.start a.end) a.target.now a.source.now a.res.now a.work.now kept (omega arith, tt) c.sound_head.ensures.is c.sound_head.ensures.readable c.in-Some.is c.sound_head-2.ensures.is c.in_default-sound_head.is c.refuse-in_default-sound_head.ensures

pub refuse-requires-in_default-judge_range : goal.refuse-requires-in_default-judge_range
refuse-requires-in_default-judge_range c =
    let kept = kept_at (goal.at.refuse-requires-in_default-judge_range c).In_ok-judge_sizes in
    kept.work_long

pub returns-in_default-judge_range : goal.returns-in_default-judge_range
unfolding filter_deps_from_call
returns-in_default-judge_range c =
    let kept = kept_at (goal.at.returns-in_default-judge_range c).In_ok-judge_sizes in
    let both : SoundRecord c.in-Some.head c.args.target.now × SoundRecord c.in-Some-sound_head.other c.args.source.now = (
      sound_record _ c.sound_head.ensures.is c.sound_head.ensures.readable c.in-Some.is,
      sound_record _ c.sound_head-2.ensures.is c.sound_head-2.ensures.readable c.in-Some-sound_head.is,
    ) in
    let ranged : RangeIs c.args.start c.args.end c.judge_range.result = range_handed c.args.start c.args.end c.judge_range.result c.ranges.start c.ranges.end c.judge_range.ensures in
    let a = c.args in
    let r = both in
    pair_late (filter_of a.start a.end) (range_reasons a.start a.end) a.target.now a.source.now a.res.now a.work.now kept (omega arith, tt) (pair_passed _ _ (range_reasons a.start a.end) r.0 r.1 ∙ argument_wrong _ (not_fails _ (range_wrong _ _ ranged c.in_default-judge_range.is))) c.refuse-in_default-judge_range.ensures

pub slice_bounds-filter_into-end : goal.slice_bounds-filter_into-end
slice_bounds-filter_into-end c =
    let kept = kept_at (goal.at.slice_bounds-filter_into-end c).In_ok-judge_sizes in
    omega (arith, kept.work_long)

pub filter_into-step-requires : goal.filter_into-step-requires
filter_into-step-requires c =
    let kept = kept_at (goal.at.filter_into-step-requires c).In_ok-judge_sizes in
    let both : SoundRecord c.in-Some.head c.args.target.now × SoundRecord c.in-Some-sound_head.other c.args.source.now = (
      sound_record _ c.sound_head.ensures.is c.sound_head.ensures.readable c.in-Some.is,
      sound_record _ c.sound_head-2.ensures.is c.sound_head-2.ensures.readable c.in-Some-sound_head.is,
    ) in record {
      sound_record = both;
      part_size_in_bounds = simp length-take (omega (arith, kept.work_long));
    }

pub finish-requires : goal.finish-requires
finish-requires c =
    let kept = kept_at (goal.at.finish-requires c).In_ok-judge_sizes in
    let ranged : RangeIs c.args.start c.args.end c.judge_range.result = range_handed c.args.start c.args.end c.judge_range.result c.ranges.start c.ranges.end c.judge_range.ensures in
    let good : RangeGood c.args.start c.args.end c.in-Some-judge_range.from c.in-Some-judge_range.to = range_within _ _ ranged c.in-Some-judge_range.is in
    let a = c.args in
    let k = kept in record {
      work_size_in_bounds = (omega (arith, c.work-2-1.given.1, k.work_long), k.result_long);
      holds = (filter_says a.start a.end a.target.now a.source.now a.res.now a.work.now k good c.work-2-1.given.0 c.filter_into-step.ensures).holds;
    }

pub returns : goal.returns
returns c =
    let kept = kept_at (goal.at.returns c).In_ok-judge_sizes in
    let both : SoundRecord c.in-Some.head c.args.target.now × SoundRecord c.in-Some-sound_head.other c.args.source.now = (
      sound_record _ c.sound_head.ensures.is c.sound_head.ensures.readable c.in-Some.is,
      sound_record _ c.sound_head-2.ensures.is c.sound_head-2.ensures.readable c.in-Some-sound_head.is,
    ) in
    let ranged : RangeIs c.args.start c.args.end c.judge_range.result = range_handed c.args.start c.args.end c.judge_range.result c.ranges.start c.ranges.end c.judge_range.ensures in
    let good : RangeGood c.args.start c.args.end c.in-Some-judge_range.from c.in-Some-judge_range.to = range_within _ _ ranged c.in-Some-judge_range.is in
    let a = c.args in
    let k = kept in
    let r = both in
    filter_done a.start a.end a.target.now a.source.now a.res.now a.work.now k good c.work-2-1.given.0 c.filter_into-step.ensures r.0 r.1 c.finish.ensures
