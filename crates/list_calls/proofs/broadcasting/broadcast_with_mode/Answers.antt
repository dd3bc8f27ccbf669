-- `broadcast_with_mode`: what is judged of the list, the step in a window of the working buffer, and the end of the call.
use Rattle.rules.proofs.HandedOn.{handed_on}
use mathlib.Core.Bool.{◌||◌}
use mathlib.Core.Path.{◌≡◌, ap, ◌∙◌}
use native.Mathlib.Omega.{arith}
use lib.ListN.{length, length-take}
use mir.Syntax.{w32}
use mir.ValLaws.{to_z-of_z}
use Rattle.rules.specs.Lists.{any}
use Rattle.rules.specs.Record.{list_count, records_in}
use Rattle.rules.specs.Arguments.{over_count, over_record}
use Rattle.rules.specs.Broadcast.{broadcast_with_mode_call}
use Rattle.lists.specs.Places.{standing}
use Rattle.lists.proofs.Asking.{few_listed}
use Rattle.judging.specs.LentSizes.{SizesKept}
use Rattle.judging.specs.Judging.{ModeGood, ModeIs}
use Rattle.judging.proofs.Modes.{mode_handed, mode_good, mode_wrong}
use Rattle.list_calls.proofs.Broadcasts.{records_are, over_are, broadcast_early, broadcast_kept, broadcast_unsound, broadcast_wrong, broadcast_says, broadcast_done, records_judged}
use Rattle.list_calls.proofs.broadcasting.broadcast_with_mode.Goals.{In_ok-judge_sizes, After-judge_mode, In-Some}
use Rattle.list_calls.proofs.broadcasting.broadcast_with_mode.Goals as goal

pub places_of-places-requires : goal.places_of-places-requires
places_of-places-requires c =
    let listed : c.list_count-n.result ≡ list_count c.args.count = c.list_count-n.ensures ∙ ap list_count (to_z-of_z w32 _ c.ranges.count) in
    few_listed _ listed

pub returns-in_err-judge_sizes : goal.returns-in_err-judge_sizes
unfolding broadcast_with_mode_call
returns-in_err-judge_sizes c =
    let listed : c.places_of-places.result.count ≡ list_count c.args.count = c.places_of-places.ensures.count ∙ c.list_count-n.ensures ∙ ap list_count (to_z-of_z w32 _ c.ranges.count) in
    let over : c.over_count.result ≡ over_count c.args.count = c.over_count.ensures ∙ ap over_count (to_z-of_z w32 _ c.ranges.count) in
    let axes : c.over_axes.result ≡ any over_record (records_in c.args.count c.args.layouts.now) = over_are _ _ listed c.places_of-places.ensures.is c.over_axes.ensures in
    let a = c.args in
    rw (handed_on c.from_residual.result c.from_residual.ensures.1)
    (broadcast_early a.layouts.now a.count a.operator a.mode a.res.now a.work.now over axes c.either-over.ensures c.judge_sizes.ensures c.in_err-judge_sizes.was)

kept_at : (c : In_ok-judge_sizes) → SizesKept (over_count c.args.count || any over_record (records_in c.args.count c.args.layouts.now)) (length c.args.res.now) (length c.args.work.now)
kept_at c = let listed : c.places_of-places.result.count ≡ list_count c.args.count = c.places_of-places.ensures.count ∙ c.list_count-n.ensures ∙ ap list_count (to_z-of_z w32 _ c.ranges.count) in
    let over : c.over_count.result ≡ over_count c.args.count = c.over_count.ensures ∙ ap over_count (to_z-of_z w32 _ c.ranges.count) in
    let axes : c.over_axes.result ≡ any over_record (records_in c.args.count c.args.layouts.now) = let listed : c.places_of-places.result.count ≡ list_count c.args.count = c.places_of-places.ensures.count ∙ c.list_count-n.ensures ∙ ap list_count (to_z-of_z w32 _ c.ranges.count) in
    over_are _ _ listed c.places_of-places.ensures.is c.over_axes.ensures in
    let a = c.args in
    broadcast_kept a.layouts.now a.count a.operator a.mode a.res.now a.work.now over axes c.either-over.ensures c.judge_sizes.ensures c.in_ok-judge_sizes.was

are_at : (c : In_ok-judge_sizes) → standing c.places_of-places.result.count c.places_of-places.result.at c.args.layouts.now ≡ records_in c.args.count c.args.layouts.now
are_at c = let listed : c.places_of-places.result.count ≡ list_count c.args.count = c.places_of-places.ensures.count ∙ c.list_count-n.ensures ∙ ap list_count (to_z-of_z w32 _ c.ranges.count) in
    records_are _ _ listed c.places_of-places.ensures.is

named_at : (c : After-judge_mode) → ModeIs c.args.mode c.judge_mode.result
named_at c = mode_handed _ c.judge_mode.result c.ranges.mode c.judge_mode.ensures

way_at : (c : In-Some) → ModeGood c.args.mode c.in-Some.way
way_at c = let named : ModeIs c.args.mode c.judge_mode.result = mode_handed _ c.judge_mode.result c.ranges.mode c.judge_mode.ensures in
    mode_good _ named c.in-Some.is

pub refuse-requires : goal.refuse-requires
refuse-requires c =
    let kept = kept_at (goal.at.refuse-requires c).In_ok-judge_sizes in
    kept.work_long

pub returns-then-not-all_sound : goal.returns-then-not-all_sound
unfolding broadcast_with_mode_call
returns-then-not-all_sound c =
    let are = are_at (goal.at.returns-then-not-all_sound c).In_ok-judge_sizes in
    let kept = kept_at (goal.at.returns-then-not-all_sound c).In_ok-judge_sizes in
    let a = c.args in
    broadcast_unsound a.layouts.now a.count a.operator a.mode a.res.now a.work.now kept c.places_of-places.result.count c.places_of-places.result.at are c.all_sound.ensures.is c.if-not-all_sound.true-raw c.refuse.ensures

pub refuse-requires-in_default : goal.refuse-requires-in_default
refuse-requires-in_default c =
    let kept = kept_at (goal.at.refuse-requires-in_default c).In_ok-judge_sizes in
    kept.work_long

pub returns-in_default : goal.returns-in_default
unfolding broadcast_with_mode_call
returns-in_default c =
    let are = are_at (goal.at.returns-in_default c).In_ok-judge_sizes in
    let kept = kept_at (goal.at.returns-in_default c).In_ok-judge_sizes in
    let named = named_at (goal.at.returns-in_default c).After-judge_mode in
    let a = c.args in
    broadcast_wrong a.layouts.now a.count a.operator a.mode a.res.now a.work.now kept c.places_of-places.result.count c.places_of-places.result.at are c.all_sound.ensures.is
    c.if-not-all_sound.false-raw (mode_wrong _ named c.in_default.is) c.refuse-in_default.ensures

pub slice_bounds-broadcast_in-end : goal.slice_bounds-broadcast_in-end
slice_bounds-broadcast_in-end c =
    let kept = kept_at (goal.at.slice_bounds-broadcast_in-end c).In_ok-judge_sizes in
    omega (arith, kept.work_long)

pub broadcast_in-step-requires : goal.broadcast_in-step-requires
broadcast_in-step-requires c =
    let kept = kept_at (goal.at.broadcast_in-step-requires c).In_ok-judge_sizes in record {
      each_at = records_judged c.all_sound.ensures.known c.if-not-all_sound.false-raw;
      window_size_in_bounds = simp length-take (omega (arith, kept.work_long));
    }

pub finish-requires : goal.finish-requires
finish-requires c =
    let are = are_at (goal.at.finish-requires c).In_ok-judge_sizes in
    let kept = kept_at (goal.at.finish-requires c).In_ok-judge_sizes in
    let way = way_at (goal.at.finish-requires c).In-Some in
    let a = c.args in
    let k = kept in record {
      work_size_in_bounds = (omega (arith, c.work-2-1.given.1, k.work_long), k.result_long);
      holds = (broadcast_says a.layouts.now a.count a.operator a.mode a.res.now a.work.now k c.places_of-places.result.count c.places_of-places.result.at are c.all_sound.ensures.is
          way c.rule_of-rule.ensures c.work-2-1.given.0 c.broadcast_in-step.ensures).holds;
    }

pub returns : goal.returns
unfolding broadcast_with_mode_call
returns c =
    let are = are_at (goal.at.returns c).In_ok-judge_sizes in
    let kept = kept_at (goal.at.returns c).In_ok-judge_sizes in
    let way = way_at (goal.at.returns c).In-Some in
    let a = c.args in
    broadcast_done a.layouts.now a.count a.operator a.mode a.res.now a.work.now kept c.places_of-places.result.count c.places_of-places.result.at are c.all_sound.ensures.is
    way c.rule_of-rule.ensures c.work-2-1.given.0 c.broadcast_in-step.ensures c.if-not-all_sound.false-raw c.finish.ensures
