-- `ravel_index`: by the first reason that holds.
use mathlib.Core.Bool.{Bool}
use mathlib.Core.Path.{◌≡◌}
use lib.ListN.{length}
use Rattle.rules.specs.Arguments.{good_index}
use Rattle.rules.specs.Positions.{ravel_index_call}
use Rattle.rules.specs.Record.{shape_in}
use Rattle.rules.specs.Refusals.{number_of}
use Rattle.shapes.specs.Judged.{Judged}
use Rattle.judging.proofs.Judged.{judged, told_not_true, told_not_false}
use Rattle.judging.proofs.Required.{shape_judged, index_counted}
use Rattle.shape_calls.proofs.positions.ravel_index.Goals as goal

pub returns-then-over_shape : goal.returns-then-over_shape
unfolding ravel_index_call number_of
returns-then-over_shape c = search judged

pub returns-then-not-good_shape : goal.returns-then-not-good_shape
unfolding ravel_index_call number_of
returns-then-not-good_shape c = search judged

pub rank-requires : goal.rank-requires
rank-requires c =
    let shape : Judged c.args.shape.now = shape_judged _ c.over_shape.ensures c.if-over_shape.false c.good_shape.ensures c.if-not-good_shape.false-raw in
    shape

pub returns-then-not-good_index : goal.returns-then-not-good_index
unfolding ravel_index_call number_of
returns-then-not-good_index c =
    let shape : Judged c.args.shape.now = shape_judged _ c.over_shape.ensures c.if-over_shape.false c.good_shape.ensures c.if-not-good_shape.false-raw in
    let fits : Bool = let a = c.args in good_index a.index.now (length (shape_in a.shape.now)) in
    let index : c.good_index.result ≡ fits = index_counted c.args.index.now c.rank.ensures.0 c.good_index.ensures in
    let s = shape in
    let small = s.small in
    let good = s.good in
    let wrong = told_not_true fits index c.if-not-good_index.true-raw in
    search judged

pub ravel-requires : goal.ravel-requires
ravel-requires c =
    let shape : Judged c.args.shape.now = shape_judged _ c.over_shape.ensures c.if-over_shape.false c.good_shape.ensures c.if-not-good_shape.false-raw in
    let fits : Bool = let a = c.args in good_index a.index.now (length (shape_in a.shape.now)) in
    let index : c.good_index.result ≡ fits = index_counted c.args.index.now c.rank.ensures.0 c.good_index.ensures in record {
      judged = shape;
      shape_value = told_not_false fits index c.if-not-good_index.false-raw;
    }

pub returns : goal.returns
unfolding ravel_index_call number_of
returns c =
    let shape : Judged c.args.shape.now = shape_judged _ c.over_shape.ensures c.if-over_shape.false c.good_shape.ensures c.if-not-good_shape.false-raw in
    let fits : Bool = let a = c.args in good_index a.index.now (length (shape_in a.shape.now)) in
    let index : c.good_index.result ≡ fits = index_counted c.args.index.now c.rank.ensures.0 c.good_index.ensures in
    let s = shape in
    let small = s.small in
    let good = s.good in
    let right = told_not_false fits index c.if-not-good_index.false-raw in
    search judged
