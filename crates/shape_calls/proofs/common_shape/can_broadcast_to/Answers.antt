-- `can_broadcast_to`: by the first reason that holds.
use Rattle.rules.specs.Refusals.{number_of}
use Rattle.rules.specs.Shapes.{can_broadcast_to_call}
use Rattle.judging.proofs.Judged.{judged}
use Rattle.judging.proofs.Required.{shape_judged}
use Rattle.shape_calls.proofs.common_shape.can_broadcast_to.Goals as goal

pub returns-then-over_shape : goal.returns-then-over_shape
unfolding can_broadcast_to_call number_of
returns-then-over_shape c = search judged

pub returns-then-over_shape-2 : goal.returns-then-over_shape-2
unfolding can_broadcast_to_call number_of
returns-then-over_shape-2 c = search judged

pub returns-then-not-good_shape : goal.returns-then-not-good_shape
unfolding can_broadcast_to_call number_of
returns-then-not-good_shape c = search judged

pub returns-then-not-good_shape-2 : goal.returns-then-not-good_shape-2
unfolding can_broadcast_to_call number_of
returns-then-not-good_shape-2 c = search judged

pub stretches-requires : goal.stretches-requires
stretches-requires c = record {
  judged = shape_judged _ c.over_shape.ensures c.if-over_shape.false c.good_shape.ensures c.if-not-good_shape.false-raw;
  judged_2 = shape_judged _ c.over_shape-2.ensures c.if-over_shape-2.false c.good_shape-2.ensures c.if-not-good_shape-2.false-raw;
}

pub returns : goal.returns
unfolding can_broadcast_to_call number_of
returns c = search judged
