-- `union`: what is judged, both records loaded and united in a window that is lent twice, and the end of the call.
use Rattle.rules.proofs.HandedOn.{handed_on}
use mathlib.Core.Path.{◌≡◌, refl}
use mathlib.Core.Bool.{◌&&◌, ◌||◌}
use mathlib.Core.List.{[]}
use native.Mathlib.Omega.{arith}
use lib.ListN.{length, length-take}
use Rattle.rules.specs.Record.{ordered}
use Rattle.rules.specs.Arguments.{over_record}
use Rattle.rules.specs.Union.{union, union_call}
use Rattle.records.specs.Sound.{SoundRecord}
use Rattle.records.proofs.SoundRecords.{none_found, head_found_lem, found_sound, order_found_lem}
use Rattle.judging.specs.LentSizes.{SizesKept}
use Rattle.judging.proofs.PairCalls.{pair_early, pair_kept, pair_late_first, pair_late_second, pair_done, late_union}
use Rattle.judging.proofs.Endings.{nothing_more}
use Rattle.intersecting.proofs.Intersected.{rising}
use Rattle.pair_calls.proofs.Intersections.{both_told, ordered_in_window}
use Rattle.pair_calls.proofs.InWindow.{asked_in_window, says_in_window, only_in_window}
use Rattle.pair_calls.proofs.union.Goals.{In_ok-judge_sizes}
use Rattle.pair_calls.proofs.union.Goals as goal

pub returns-in_err-judge_sizes : goal.returns-in_err-judge_sizes
unfolding union_call
returns-in_err-judge_sizes c = let a = c.args in
    rw (handed_on c.from_residual.result c.from_residual.ensures.1)
    (pair_early union [] a.left.now a.right.now a.res.now a.work.now c.over_record.ensures c.over_record-2.ensures c.either-over.ensures c.judge_sizes.ensures c.in_err-judge_sizes.was)

kept_at : (c : In_ok-judge_sizes) → SizesKept (over_record c.args.left.now || over_record c.args.right.now) (length c.args.res.now) (length c.args.work.now)
kept_at c = let a = c.args in
    pair_kept union [] a.left.now a.right.now a.res.now a.work.now c.over_record.ensures c.over_record-2.ensures c.either-over.ensures c.judge_sizes.ensures c.in_ok-judge_sizes.was

pub refuse-requires : goal.refuse-requires
refuse-requires c =
    let kept = kept_at (goal.at.refuse-requires c).In_ok-judge_sizes in
    kept.work_long

pub returns-in_default : goal.returns-in_default
unfolding union_call
returns-in_default c =
    let kept = kept_at (goal.at.returns-in_default c).In_ok-judge_sizes in
    let a = c.args in
    pair_late_first union [] a.left.now a.right.now a.res.now a.work.now kept tt (none_found c.judged.ensures c.in_default.is) refl c.refuse.ensures

pub refuse-requires-in_default-judged : goal.refuse-requires-in_default-judged
refuse-requires-in_default-judged c =
    let kept = kept_at (goal.at.refuse-requires-in_default-judged c).In_ok-judge_sizes in
    kept.work_long

pub returns-in_default-judged : goal.returns-in_default-judged
unfolding union_call
returns-in_default-judged c =
    let kept = kept_at (goal.at.returns-in_default-judged c).In_ok-judge_sizes in
    let a = c.args in
    pair_late_second union [] a.left.now a.right.now a.res.now a.work.now kept tt (head_found_lem c.judged.ensures c.in-Some.is) (found_sound c.judged.ensures c.in-Some.is).readable refl (none_found c.judged-2.ensures c.in_default-judged.is) refl c.refuse-in_default-judged.ensures

pub slice_bounds-load_pair-end : goal.slice_bounds-load_pair-end
slice_bounds-load_pair-end c =
    let kept = kept_at (goal.at.slice_bounds-load_pair-end c).In_ok-judge_sizes in
    omega (arith, kept.work_long)

pub load_pair-requires : goal.load_pair-requires
load_pair-requires c =
    let kept = kept_at (goal.at.load_pair-requires c).In_ok-judge_sizes in
    let both : SoundRecord c.in-Some.first c.args.left.now × SoundRecord c.in-Some-judged.second c.args.right.now = (
      found_sound c.judged.ensures c.in-Some.is,
      found_sound c.judged-2.ensures c.in-Some-judged.is,
    ) in
    let r = both in record {
      sound_record = (r.0, r.1);
      window_size_in_bounds = simp length-take (omega (arith, kept.work_long));
    }

pub slice_bounds-union_in-end : goal.slice_bounds-union_in-end
slice_bounds-union_in-end c =
    let kept = kept_at (goal.at.slice_bounds-union_in-end c).In_ok-judge_sizes in
    omega (arith, c.work-2-1.given.1, kept.work_long)

pub union_in-step-requires : goal.union_in-step-requires
union_in-step-requires c =
    let kept = kept_at (goal.at.union_in-step-requires c).In_ok-judge_sizes in
    let increase : c.both-rising.result ≡ (ordered c.args.left.now && ordered c.args.right.now) = both_told _ _ (order_found_lem c.judged.ensures c.in-Some.is) (order_found_lem c.judged-2.ensures c.in-Some-judged.is) c.both-rising.ensures in
    let a = c.args in record {
      window = asked_in_window a.work.now kept.work_long c.load_pair.ensures c.work-2-1.given.0;
      rising = λ e. rising (ordered_in_window a.left.now a.right.now increase e a.work.now kept.work_long c.load_pair.ensures c.work-2-1.given.0);
    }

pub finish-requires : goal.finish-requires
finish-requires c =
    let kept = kept_at (goal.at.finish-requires c).In_ok-judge_sizes in
    let k = kept in record {
      work_size_in_bounds = (omega (arith, c.work-3-1.given.1, c.work-2-1.given.1, k.work_long), k.result_long);
      holds = (says_in_window c.args.work.now k.work_long c.load_pair.ensures c.work-2-1.given.0 c.union_in-step.ensures).holds;
    }

pub shape_of-work : goal.shape_of-work
shape_of-work c = omega (arith, c.work-4-1.given, c.work-3-1.given.1, c.work-2-1.given.1)

pub returns : goal.returns
unfolding union_call
returns c =
    let kept = kept_at (goal.at.returns c).In_ok-judge_sizes in
    let both : SoundRecord c.in-Some.first c.args.left.now × SoundRecord c.in-Some-judged.second c.args.right.now = (
      found_sound c.judged.ensures c.in-Some.is,
      found_sound c.judged-2.ensures c.in-Some-judged.is,
    ) in
    let a = c.args in
    let k = kept in
    let r = both in
    pair_done union [] a.left.now a.right.now a.res.now a.work.now k r.0 r.1 nothing_more (late_union _ _)
    (says_in_window a.work.now k.work_long c.load_pair.ensures c.work-2-1.given.0 c.union_in-step.ensures)
    (only_in_window a.work.now k.work_long c.load_pair.ensures c.work-2-1.given.0 c.union_in-step.ensures)
    c.finish.ensures
