-- `unravel_index`: by the first reason that holds.
use mathlib.Core.Path.{◌≡◌, ap}
use Prim.Native.Nat.{ℕ}
use Rattle.rules.specs.Positions.{unravel_index, unravel_index_call}
use Rattle.rules.specs.Record.{shape_in}
use Rattle.rules.specs.Refusals.{number_of}
use Rattle.rules.specs.declared.Refusal.TheVariants.{OverCount, WrongArgument}
use Rattle.rules.proofs.HandedOn.{handed_on, was_some, was_none}
use Rattle.cells.specs.View.{sign_of}
use Rattle.shapes.proofs.Reading.{handed_over, as_natural, sign_natural, sign_negative}
use Rattle.shapes.specs.Judged.{Judged}
use Rattle.judging.proofs.Judged.{judged, told_true, told_not_true}
use Rattle.judging.proofs.Required.{shape_judged}
use Rattle.lists.proofs.ByValue.{tuple_refused, tuple_same}
use Rattle.shape_calls.proofs.positions.unravel_index.Goals.{After-sign_of}
use Rattle.shape_calls.proofs.positions.unravel_index.Goals as goal

pub returns-then-over_shape : goal.returns-then-over_shape
unfolding unravel_index_call number_of
returns-then-over_shape c = let over = told_true _ c.over_shape.ensures c.if-over_shape.true in
    tuple_refused OverCount (search judged)

pub returns-then-not-good_shape : goal.returns-then-not-good_shape
unfolding unravel_index_call number_of
returns-then-not-good_shape c = let wrong = told_not_true _ c.good_shape.ensures c.if-not-good_shape.true-raw in
    tuple_refused WrongArgument (search judged)

-- the shape was judged, and the number is read by its sign
shape : (c : After-sign_of) → Judged c.args.shape.now
shape c = shape_judged _ c.over_shape.ensures c.if-over_shape.false c.good_shape.ensures c.if-not-good_shape.false-raw

sign : (c : After-sign_of) → c.sign_of.result ≡ sign_of c.args.n
sign c = handed_over _ c.ranges.n c.sign_of.ensures.is

pub returns-in_err-number : goal.returns-in_err-number
unfolding unravel_index_call number_of
returns-in_err-number c =
    let at = (goal.at.returns-in_err-number c).After-sign_of in
    let none = was_none _ _ c.ok_or.ensures.value c.in_err-number.was in
    let small = (shape at).small in
    let good = (shape at).good in
    let negative = sign_negative _ (sign at) none.0 in
    rw (handed_on c.from_residual.result c.from_residual.ensures.1, none.1) (tuple_refused WrongArgument (search judged))

pub index_of-requires : goal.index_of-requires
index_of-requires c = shape (goal.at.index_of-requires c).After-sign_of

pub returns : goal.returns
unfolding unravel_index_call number_of
returns c =
    let at = (goal.at.returns c).After-sign_of in
    let some = was_some _ _ c.ok_or.ensures.value c.in_ok-number.was in
    let small = (shape at).small in
    let good = (shape at).good in
    let natural = sign_natural _ (sign at) some in
    let same = ap (λ (k : ℕ). unravel_index k (shape_in c.args.shape.now)) (as_natural _ (sign at) some) in
    tuple_same _ c.index_of.ensures (search judged)
