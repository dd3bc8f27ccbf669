-- `concatenate`: what is judged of the list, the step in a window of the working buffer, and the end of the call.
use Rattle.rules.proofs.HandedOn.{handed_on}
use mathlib.Core.Bool.{not, ◌&&◌, ◌||◌}
use mathlib.Core.Path.{◌≡◌, ap, ◌∙◌}
use native.Mathlib.Omega.{arith}
use lib.IntN.{ℤ}
use lib.ListN.{length, length-take}
use lib.Signed.{non_neg}
use mir.Syntax.{w32}
use mir.ValLaws.{to_z-of_z}
use Rattle.rules.specs.Lists.{if, all, any}
use Rattle.rules.specs.Record.{natural, list_count, blocks_in, sound}
use Rattle.rules.specs.Arguments.{over_count, over_rank, over_record}
use Rattle.rules.specs.Concatenate.{good_block, concatenate_call}
use Rattle.lists.specs.Starts.{blocks_at}
use Rattle.lists.proofs.Asking.{few_listed}
use Rattle.judging.specs.LentSizes.{SizesKept}
use Rattle.list_calls.proofs.Concatenations.{told_by, end_most, walked_to, ask_starts, wrong_are, joined_said, over_are, sound_are, ask_joined, join_early, join_kept, rank_few, join_unsound, join_wrong, all_good, join_says, join_done}
use Rattle.list_calls.proofs.joining.concatenate.Goals.{In_ok-judge_sizes, After-all_sound}
use Rattle.list_calls.proofs.joining.concatenate.Goals as goal

pub slice_bounds-list-end : goal.slice_bounds-list-end
slice_bounds-list-end c =
    let ended : c.walkable-end.result ≡ if (non_neg c.args.rank) (length c.args.blocks.now) 0 = c.walkable-end.ensures ∙ ap (λ (z : ℤ). if (non_neg z) (length c.args.blocks.now) 0) (to_z-of_z w32 _ c.ranges.rank) in
    let a = c.args in
    omega (arith, end_most a.rank (length a.blocks.now) ended)

pub places_of-places-requires : goal.places_of-places-requires
places_of-places-requires c =
    let listed : c.list_count-n.result ≡ list_count c.args.count = c.list_count-n.ensures ∙ ap list_count (to_z-of_z w32 _ c.ranges.count) in
    few_listed _ listed

pub overflow_add-axes : goal.overflow_add-axes
overflow_add-axes c = omega (arith, c.axes_of-axes.ensures.1)

pub moved-records-requires : goal.moved-records-requires
moved-records-requires c = c.places_of-places.ensures.is.inside

pub over_blocks-over-requires : goal.over_blocks-over-requires
over_blocks-over-requires c = c.moved-records.ensures.is.inside

pub returns-in_err-judge_sizes : goal.returns-in_err-judge_sizes
unfolding concatenate_call
returns-in_err-judge_sizes c =
    let listed : c.places_of-places.result.count ≡ list_count c.args.count = c.places_of-places.ensures.count ∙ c.list_count-n.ensures ∙ ap list_count (to_z-of_z w32 _ c.ranges.count) in
    let axes : c.axes_of-axes.result ≡ natural c.args.rank = c.axes_of-axes.ensures.0 ∙ ap natural (to_z-of_z w32 _ c.ranges.rank) in
    let ended : c.walkable-end.result ≡ if (non_neg c.args.rank) (length c.args.blocks.now) 0 = c.walkable-end.ensures ∙ ap (λ (z : ℤ). if (non_neg z) (length c.args.blocks.now) 0) (to_z-of_z w32 _ c.ranges.rank) in
    let over : c.over_blocks-over.result ≡ over_count c.args.count || over_rank c.args.rank || any (λ b. over_record b.layout) (blocks_in c.args.count c.args.rank c.args.blocks.now) = told_by c.over_blocks-over.ensures (to_z-of_z w32 _ c.ranges.count) (to_z-of_z w32 _ c.ranges.rank) (over_are c.args.count c.args.rank c.args.blocks.now listed axes ended c.places_of-places.ensures.is c.moved-records.ensures.is) in
    rw (handed_on c.from_residual.result c.from_residual.ensures.1)
    (join_early c.args.blocks.now c.args.count c.args.rank c.args.res.now c.args.work.now over c.judge_sizes.ensures c.in_err-judge_sizes.was)

pub all_sound-requires : goal.all_sound-requires
all_sound-requires c = c.moved-records.ensures.is.inside

kept_at : (c : In_ok-judge_sizes) → SizesKept (over_count c.args.count || over_rank c.args.rank || any (λ b. over_record b.layout) (blocks_in c.args.count c.args.rank c.args.blocks.now)) (length c.args.res.now) (length c.args.work.now)
kept_at c = let listed : c.places_of-places.result.count ≡ list_count c.args.count = c.places_of-places.ensures.count ∙ c.list_count-n.ensures ∙ ap list_count (to_z-of_z w32 _ c.ranges.count) in
    let axes : c.axes_of-axes.result ≡ natural c.args.rank = c.axes_of-axes.ensures.0 ∙ ap natural (to_z-of_z w32 _ c.ranges.rank) in
    let ended : c.walkable-end.result ≡ if (non_neg c.args.rank) (length c.args.blocks.now) 0 = c.walkable-end.ensures ∙ ap (λ (z : ℤ). if (non_neg z) (length c.args.blocks.now) 0) (to_z-of_z w32 _ c.ranges.rank) in
    let over : c.over_blocks-over.result ≡ over_count c.args.count || over_rank c.args.rank || any (λ b. over_record b.layout) (blocks_in c.args.count c.args.rank c.args.blocks.now) = let listed : c.places_of-places.result.count ≡ list_count c.args.count = c.places_of-places.ensures.count ∙ c.list_count-n.ensures ∙ ap list_count (to_z-of_z w32 _ c.ranges.count) in
    let axes : c.axes_of-axes.result ≡ natural c.args.rank = c.axes_of-axes.ensures.0 ∙ ap natural (to_z-of_z w32 _ c.ranges.rank) in
    let ended : c.walkable-end.result ≡ if (non_neg c.args.rank) (length c.args.blocks.now) 0 = c.walkable-end.ensures ∙ ap (λ (z : ℤ). if (non_neg z) (length c.args.blocks.now) 0) (to_z-of_z w32 _ c.ranges.rank) in
    told_by c.over_blocks-over.ensures (to_z-of_z w32 _ c.ranges.count) (to_z-of_z w32 _ c.ranges.rank) (over_are c.args.count c.args.rank c.args.blocks.now listed axes ended c.places_of-places.ensures.is c.moved-records.ensures.is) in
    join_kept c.args.blocks.now c.args.count c.args.rank c.args.res.now c.args.work.now over c.judge_sizes.ensures c.in_ok-judge_sizes.was

told-sound_at : (c : After-all_sound) → c.all_sound.result ≡ all (λ b. sound b.layout) (blocks_in c.args.count c.args.rank c.args.blocks.now)
told-sound_at c = let listed : c.places_of-places.result.count ≡ list_count c.args.count = c.places_of-places.ensures.count ∙ c.list_count-n.ensures ∙ ap list_count (to_z-of_z w32 _ c.ranges.count) in
    let axes : c.axes_of-axes.result ≡ natural c.args.rank = c.axes_of-axes.ensures.0 ∙ ap natural (to_z-of_z w32 _ c.ranges.rank) in
    let ended : c.walkable-end.result ≡ if (non_neg c.args.rank) (length c.args.blocks.now) 0 = c.walkable-end.ensures ∙ ap (λ (z : ℤ). if (non_neg z) (length c.args.blocks.now) 0) (to_z-of_z w32 _ c.ranges.rank) in
    c.all_sound.ensures.is ∙ sound_are c.args.count c.args.rank c.args.blocks.now listed axes ended c.places_of-places.ensures.is c.moved-records.ensures.is

pub refuse-requires : goal.refuse-requires
refuse-requires c =
    let kept = kept_at (goal.at.refuse-requires c).In_ok-judge_sizes in
    kept.work_long

pub returns-then-not-all_sound : goal.returns-then-not-all_sound
unfolding concatenate_call
returns-then-not-all_sound c =
    let kept = kept_at (goal.at.returns-then-not-all_sound c).In_ok-judge_sizes in
    let told-sound = told-sound_at (goal.at.returns-then-not-all_sound c).After-all_sound in
    join_unsound c.args.blocks.now c.args.count c.args.rank c.args.res.now c.args.work.now kept told-sound c.if-not-all_sound.true-raw c.refuse.ensures

pub wrong_blocks-requires : goal.wrong_blocks-requires
wrong_blocks-requires c = c.places_of-places.ensures.is.inside

pub refuse-requires-then-wrong_blocks : goal.refuse-requires-then-wrong_blocks
refuse-requires-then-wrong_blocks c =
    let kept = kept_at (goal.at.refuse-requires-then-wrong_blocks c).In_ok-judge_sizes in
    kept.work_long

pub returns-then-wrong_blocks : goal.returns-then-wrong_blocks
unfolding concatenate_call
returns-then-wrong_blocks c =
    let listed : c.places_of-places.result.count ≡ list_count c.args.count = c.places_of-places.ensures.count ∙ c.list_count-n.ensures ∙ ap list_count (to_z-of_z w32 _ c.ranges.count) in
    let axes : c.axes_of-axes.result ≡ natural c.args.rank = c.axes_of-axes.ensures.0 ∙ ap natural (to_z-of_z w32 _ c.ranges.rank) in
    let ended : c.walkable-end.result ≡ if (non_neg c.args.rank) (length c.args.blocks.now) 0 = c.walkable-end.ensures ∙ ap (λ (z : ℤ). if (non_neg z) (length c.args.blocks.now) 0) (to_z-of_z w32 _ c.ranges.rank) in
    let kept = kept_at (goal.at.returns-then-wrong_blocks c).In_ok-judge_sizes in
    let told-sound = told-sound_at (goal.at.returns-then-wrong_blocks c).After-all_sound in
    let told-wrong : c.wrong_blocks.result ≡ not (non_neg c.args.rank && all good_block (blocks_in c.args.count c.args.rank c.args.blocks.now)) = c.wrong_blocks.ensures
    ∙ ap (λ (z : ℤ). not (non_neg z && all good_block (blocks_at (natural z) c.places_of-places.result.count c.places_of-places.result.at (walked_to c.walkable-end.result c.args.blocks.now)))) (to_z-of_z w32 _ c.ranges.rank)
    ∙ wrong_are c.args.count c.args.rank c.args.blocks.now listed axes ended c.places_of-places.ensures.is in
    join_wrong c.args.blocks.now c.args.count c.args.rank c.args.res.now c.args.work.now kept told-sound c.if-not-all_sound.false-raw told-wrong c.if-wrong_blocks.true c.refuse-then-wrong_blocks.ensures

pub block_starts-starts-requires : goal.block_starts-starts-requires
block_starts-starts-requires c =
    let listed : c.places_of-places.result.count ≡ list_count c.args.count = c.places_of-places.ensures.count ∙ c.list_count-n.ensures ∙ ap list_count (to_z-of_z w32 _ c.ranges.count) in
    let axes : c.axes_of-axes.result ≡ natural c.args.rank = c.axes_of-axes.ensures.0 ∙ ap natural (to_z-of_z w32 _ c.ranges.rank) in
    let ended : c.walkable-end.result ≡ if (non_neg c.args.rank) (length c.args.blocks.now) 0 = c.walkable-end.ensures ∙ ap (λ (z : ℤ). if (non_neg z) (length c.args.blocks.now) 0) (to_z-of_z w32 _ c.ranges.rank) in
    let kept = kept_at (goal.at.block_starts-starts-requires c).In_ok-judge_sizes in
    let told-sound = told-sound_at (goal.at.block_starts-starts-requires c).After-all_sound in
    let told-wrong : c.wrong_blocks.result ≡ not (non_neg c.args.rank && all good_block (blocks_in c.args.count c.args.rank c.args.blocks.now)) = c.wrong_blocks.ensures
    ∙ ap (λ (z : ℤ). not (non_neg z && all good_block (blocks_at (natural z) c.places_of-places.result.count c.places_of-places.result.at (walked_to c.walkable-end.result c.args.blocks.now)))) (to_z-of_z w32 _ c.ranges.rank)
    ∙ wrong_are c.args.count c.args.rank c.args.blocks.now listed axes ended c.places_of-places.ensures.is in
    let k = kept in record {
      inside = (c.places_of-places.ensures.is.inside, omega (arith, axes, rank_few c.args.blocks.now c.args.count c.args.rank c.args.res.now c.args.work.now k));
      s_value = ask_starts c.args.count c.args.rank c.args.blocks.now listed axes ended c.places_of-places.ensures.is (all_good c.args.blocks.now c.args.count c.args.rank c.args.res.now c.args.work.now k told-sound c.if-not-all_sound.false-raw told-wrong c.if-wrong_blocks.false);
    }

pub slice_bounds-concatenate_into-end : goal.slice_bounds-concatenate_into-end
slice_bounds-concatenate_into-end c =
    let kept = kept_at (goal.at.slice_bounds-concatenate_into-end c).In_ok-judge_sizes in
    omega (arith, kept.work_long)

pub concatenate_into-step-requires : goal.concatenate_into-step-requires
concatenate_into-step-requires c =
    let listed : c.places_of-places.result.count ≡ list_count c.args.count = c.places_of-places.ensures.count ∙ c.list_count-n.ensures ∙ ap list_count (to_z-of_z w32 _ c.ranges.count) in
    let axes : c.axes_of-axes.result ≡ natural c.args.rank = c.axes_of-axes.ensures.0 ∙ ap natural (to_z-of_z w32 _ c.ranges.rank) in
    let ended : c.walkable-end.result ≡ if (non_neg c.args.rank) (length c.args.blocks.now) 0 = c.walkable-end.ensures ∙ ap (λ (z : ℤ). if (non_neg z) (length c.args.blocks.now) 0) (to_z-of_z w32 _ c.ranges.rank) in
    let kept = kept_at (goal.at.concatenate_into-step-requires c).In_ok-judge_sizes in
    let k = kept in record {
      join_asked = ask_joined c.args.count c.args.rank c.args.blocks.now listed axes ended c.places_of-places.ensures.is c.moved-records.ensures.is c.moved-records.ensures.count (rank_few c.args.blocks.now c.args.count c.args.rank c.args.res.now c.args.work.now k) c.all_sound.ensures.is c.all_sound.ensures.known c.if-not-all_sound.false-raw c.block_starts-starts.ensures (simp length-take (omega (arith, k.work_long)));
      counts = c.moved-records.ensures.count;
    }

pub finish-requires : goal.finish-requires
finish-requires c =
    let listed : c.places_of-places.result.count ≡ list_count c.args.count = c.places_of-places.ensures.count ∙ c.list_count-n.ensures ∙ ap list_count (to_z-of_z w32 _ c.ranges.count) in
    let axes : c.axes_of-axes.result ≡ natural c.args.rank = c.axes_of-axes.ensures.0 ∙ ap natural (to_z-of_z w32 _ c.ranges.rank) in
    let ended : c.walkable-end.result ≡ if (non_neg c.args.rank) (length c.args.blocks.now) 0 = c.walkable-end.ensures ∙ ap (λ (z : ℤ). if (non_neg z) (length c.args.blocks.now) 0) (to_z-of_z w32 _ c.ranges.rank) in
    let kept = kept_at (goal.at.finish-requires c).In_ok-judge_sizes in
    let told-sound = told-sound_at (goal.at.finish-requires c).After-all_sound in
    let told-wrong : c.wrong_blocks.result ≡ not (non_neg c.args.rank && all good_block (blocks_in c.args.count c.args.rank c.args.blocks.now)) = c.wrong_blocks.ensures
    ∙ ap (λ (z : ℤ). not (non_neg z && all good_block (blocks_at (natural z) c.places_of-places.result.count c.places_of-places.result.at (walked_to c.walkable-end.result c.args.blocks.now)))) (to_z-of_z w32 _ c.ranges.rank)
    ∙ wrong_are c.args.count c.args.rank c.args.blocks.now listed axes ended c.places_of-places.ensures.is in
    let k = kept in record {
      work_size_in_bounds = (omega (arith, c.work-2-1.given.1, k.work_long), k.result_long);
      holds = (join_says c.args.blocks.now c.args.count c.args.rank c.args.res.now c.args.work.now k told-sound c.if-not-all_sound.false-raw told-wrong c.if-wrong_blocks.false c.work-2-1.given.0 (joined_said c.args.count c.args.rank c.args.blocks.now listed axes ended c.places_of-places.ensures.is c.concatenate_into-step.ensures)).holds;
    }

pub returns : goal.returns
unfolding concatenate_call
returns c =
    let listed : c.places_of-places.result.count ≡ list_count c.args.count = c.places_of-places.ensures.count ∙ c.list_count-n.ensures ∙ ap list_count (to_z-of_z w32 _ c.ranges.count) in
    let axes : c.axes_of-axes.result ≡ natural c.args.rank = c.axes_of-axes.ensures.0 ∙ ap natural (to_z-of_z w32 _ c.ranges.rank) in
    let ended : c.walkable-end.result ≡ if (non_neg c.args.rank) (length c.args.blocks.now) 0 = c.walkable-end.ensures ∙ ap (λ (z : ℤ). if (non_neg z) (length c.args.blocks.now) 0) (to_z-of_z w32 _ c.ranges.rank) in
    let kept = kept_at (goal.at.returns c).In_ok-judge_sizes in
    let told-sound = told-sound_at (goal.at.returns c).After-all_sound in
    let told-wrong : c.wrong_blocks.result ≡ not (non_neg c.args.rank && all good_block (blocks_in c.args.count c.args.rank c.args.blocks.now)) = c.wrong_blocks.ensures
    ∙ ap (λ (z : ℤ). not (non_neg z && all good_block (blocks_at (natural z) c.places_of-places.result.count c.places_of-places.result.at (walked_to c.walkable-end.result c.args.blocks.now)))) (to_z-of_z w32 _ c.ranges.rank)
    ∙ wrong_are c.args.count c.args.rank c.args.blocks.now listed axes ended c.places_of-places.ensures.is in
    join_done c.args.blocks.now c.args.count c.args.rank c.args.res.now c.args.work.now kept told-sound c.if-not-all_sound.false-raw told-wrong c.if-wrong_blocks.false c.work-2-1.given.0 (joined_said c.args.count c.args.rank c.args.blocks.now listed axes ended c.places_of-places.ensures.is c.concatenate_into-step.ensures) c.finish.ensures
