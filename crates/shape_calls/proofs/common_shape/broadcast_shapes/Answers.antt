-- `broadcast_shapes`: by the first reason that holds.
use mathlib.Core.Path.{◌≡◌, ap, ◌∙◌}
use mir.Syntax.{w32}
use mir.ValLaws.{to_z-of_z}
use Rattle.rules.specs.declared.Refusal.TheVariants.{OverCount, WrongArgument}
use Rattle.rules.specs.Arguments.{over_count}
use Rattle.rules.specs.Record.{list_count}
use Rattle.rules.specs.Refusals.{number_of}
use Rattle.rules.specs.Shapes.{broadcast_shapes_call}
use Rattle.shapes.specs.Judged.{Judged}
use Rattle.lists.specs.Places.{EachAt}
use Rattle.lists.proofs.Asking.{few_listed}
use Rattle.lists.proofs.Common.{judged_each}
use Rattle.judging.proofs.Judged.{judged, told_true, told_false, told_not_true, told_not_false}
use Rattle.shape_calls.proofs.Listed.{by_count, over_listed}
use Rattle.lists.proofs.ByValue.{tuple_refused, tuple_same}
use Rattle.shape_calls.proofs.common_shape.broadcast_shapes.Goals as goal

pub returns-then-over_count : goal.returns-then-over_count
unfolding broadcast_shapes_call number_of
returns-then-over_count c =
    let over : c.over_count.result ≡ over_count c.args.count = c.over_count.ensures ∙ ap over_count (to_z-of_z w32 _ c.ranges.count) in
    let many = told_true (over_count c.args.count) over c.if-over_count.true in
    tuple_refused OverCount (search judged)

pub places_of-places-requires : goal.places_of-places-requires
places_of-places-requires c =
    let listed : c.list_count-n.result ≡ list_count c.args.count = c.list_count-n.ensures ∙ ap list_count (to_z-of_z w32 _ c.ranges.count) in
    few_listed _ listed

pub all_pass-requires : goal.all_pass-requires
all_pass-requires c = record { inside = c.places_of-places.ensures.is.inside; known = λ i h. tt }

pub returns-then-not-all_pass : goal.returns-then-not-all_pass
unfolding number_of
returns-then-not-all_pass c =
    let over : c.over_count.result ≡ over_count c.args.count = c.over_count.ensures ∙ ap over_count (to_z-of_z w32 _ c.ranges.count) in
    let listed : c.places_of-places.result.count ≡ list_count c.args.count = c.places_of-places.ensures.count ∙ c.list_count-n.ensures ∙ ap list_count (to_z-of_z w32 _ c.ranges.count) in
    let few = told_false (over_count c.args.count) over c.if-over_count.false in
    let long = over_listed c.places_of-places.ensures.is.inside c.all_pass.ensures c.if-not-all_pass.true-raw in
    tuple_refused OverCount (by_count _ _ _ listed c.places_of-places.ensures.is.begin (search judged))

pub all_pass-requires-2 : goal.all_pass-requires-2
all_pass-requires-2 c = record { inside = c.places_of-places.ensures.is.inside; known = λ i h. tt }

pub returns-then-not-all_pass-2 : goal.returns-then-not-all_pass-2
unfolding number_of
returns-then-not-all_pass-2 c =
    let over : c.over_count.result ≡ over_count c.args.count = c.over_count.ensures ∙ ap over_count (to_z-of_z w32 _ c.ranges.count) in
    let listed : c.places_of-places.result.count ≡ list_count c.args.count = c.places_of-places.ensures.count ∙ c.list_count-n.ensures ∙ ap list_count (to_z-of_z w32 _ c.ranges.count) in
    let few = told_false (over_count c.args.count) over c.if-over_count.false in
    let short = over_listed c.places_of-places.ensures.is.inside c.all_pass.ensures c.if-not-all_pass.false-raw in
    let wrong = told_not_true _ c.all_pass-2.ensures c.if-not-all_pass-2.true-raw in
    tuple_refused WrongArgument (by_count _ _ _ listed c.places_of-places.ensures.is.begin (search judged))

pub agreed_shape-requires : goal.agreed_shape-requires
agreed_shape-requires c =
    let shapes : EachAt Judged c.places_of-places.result.count c.places_of-places.result.at c.args.shapes.now = judged_each c.places_of-places.ensures.is.inside
    (told_not_false _ c.all_pass.ensures c.if-not-all_pass.false-raw)
    (told_not_false _ c.all_pass-2.ensures c.if-not-all_pass-2.false-raw) in
    shapes

pub returns : goal.returns
returns c =
    let over : c.over_count.result ≡ over_count c.args.count = c.over_count.ensures ∙ ap over_count (to_z-of_z w32 _ c.ranges.count) in
    let listed : c.places_of-places.result.count ≡ list_count c.args.count = c.places_of-places.ensures.count ∙ c.list_count-n.ensures ∙ ap list_count (to_z-of_z w32 _ c.ranges.count) in
    let few = told_false (over_count c.args.count) over c.if-over_count.false in
    let short = over_listed c.places_of-places.ensures.is.inside c.all_pass.ensures c.if-not-all_pass.false-raw in
    let good = told_not_false _ c.all_pass-2.ensures c.if-not-all_pass-2.false-raw in
    tuple_same _ c.agreed_shape.ensures.is (by_count _ _ _ listed c.places_of-places.ensures.is.begin (search judged))
