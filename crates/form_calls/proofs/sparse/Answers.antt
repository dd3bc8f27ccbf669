-- `sparse`: by the first reason that holds.
use Rattle.std.specs.Prelude.{Some}
use Prim.Native.Nat.{ℕ, ◌*◌}
use Rattle.cells.specs.View.{sign_of}
use Rattle.judging.proofs.Judged.{judged}
use Rattle.judging.proofs.Results.{ends_refused, ends_stepped, results}
use Rattle.judging.proofs.Results.{rows_numbered, rows_misnumbered, rows_fit}
use Rattle.judging.proofs.Shapes.{shape_refused, sparse_refused}
use Rattle.rules.specs.CountsAndForms.{sparse, sparse_call}
use Rattle.rules.specs.Layout.{Layout, encode}
use Rattle.rules.specs.Record.{shape_in}
use Rattle.rules.specs.Refusals.{Verdict, number_of, lowest}
use Rattle.rules.specs.declared.Refusal.TheVariants.{WrongArgument}
use Rattle.shapes.proofs.Reading.{handed_over, as_natural, sign_natural, sign_negative}
use lib.ListN.{length}
use mathlib.Core.Path.{◌≡◌, ap, ◌∙◌}
use Rattle.rules.proofs.HandedOn.{handed_on, was_some, was_none}
use Rattle.form_calls.proofs.sparse.Goals.{After-sign_of, In_ok-n}
use Rattle.form_calls.proofs.sparse.Goals as goal

pub returns-in_err-judge_shape : goal.returns-in_err-judge_shape
returns-in_err-judge_shape c =
    let call : Verdict Layout = sparse_call c.args.shape.now c.args.count c.args.numbers.now (length c.args.res.now) in
    let a = c.args in
    rw (handed_on c.from_residual.result c.from_residual.ensures.1)
    (ends_refused encode call _ (sparse_refused a.shape.now a.count a.numbers.now _ (shape_refused _ _ c.judge_shape.ensures c.in_err-judge_shape.was)))

-- the count is read by its sign
sign : (c : After-sign_of) → c.sign_of.result ≡ sign_of c.args.count
sign c = handed_over _ c.ranges.count c.sign_of.ensures.is

pub returns-in_err-n : goal.returns-in_err-n
unfolding sparse_call number_of lowest
returns-in_err-n c =
    let call : Verdict Layout = sparse_call c.args.shape.now c.args.count c.args.numbers.now (length c.args.res.now) in
    let g = c.in_ok-judge_shape.ensures in
    let none = was_none _ _ c.ok_or.ensures.value c.in_err-n.was in
    let negative = sign_negative _ (sign (goal.at.returns-in_err-n c).After-sign_of) none.0 in
    rw (handed_on c.from_residual-in_err-n.result c.from_residual-in_err-n.ensures.1, none.1)
    (ends_refused encode call WrongArgument (search (judged, results)))

pub rank-requires : goal.rank-requires
rank-requires c = c.in_ok-judge_shape.ensures.shape

some : (c : In_ok-n) → c.sign_of.result ≡ Some c.in_ok-n.n
some c = was_some _ _ c.ok_or.ensures.value c.in_ok-n.was

pub overflow_mul-n : goal.overflow_mul-n
overflow_mul-n c = rows_fit c.sign_of.ensures.small (some (goal.at.overflow_mul-n c).In_ok-n) c.rank.ensures.1

pub returns-then-numbers-n : goal.returns-then-numbers-n
unfolding sparse_call number_of lowest
returns-then-numbers-n c =
    let call : Verdict Layout = sparse_call c.args.shape.now c.args.count c.args.numbers.now (length c.args.res.now) in
    let g = c.in_ok-judge_shape.ensures in
    let read = sign (goal.at.returns-then-numbers-n c).After-sign_of in
    let there = some (goal.at.returns-then-numbers-n c).In_ok-n in
    let natural = sign_natural _ read there in
    let wrong = rows_misnumbered c.args.shape.now (length c.args.numbers.now) c.args.count (as_natural _ read there) c.rank.ensures.0 c.if-numbers-n.true in
    ends_refused encode call WrongArgument (search (judged, results))

pub sparse-requires : goal.sparse-requires
sparse-requires c = record {
  judged = c.in_ok-judge_shape.ensures.shape;
  numbers_len = c.if-numbers-n.false ∙ ap (λ (w : ℕ). c.in_ok-n.n * w) c.rank.ensures.0;
  result_size_in_bounds = c.in_ok-judge_shape.ensures.result_long;
}

pub returns : goal.returns
unfolding sparse_call number_of
returns c =
    let call : Verdict Layout = sparse_call c.args.shape.now c.args.count c.args.numbers.now (length c.args.res.now) in
    let g = c.in_ok-judge_shape.ensures in
    let read = sign (goal.at.returns c).After-sign_of in
    let there = some (goal.at.returns c).In_ok-n in
    let natural = sign_natural _ read there in
    let count = as_natural _ read there in
    let right = rows_numbered c.args.shape.now (length c.args.numbers.now) c.args.count count c.rank.ensures.0 c.if-numbers-n.false in
    let same = ap (λ (n : ℕ). sparse (shape_in c.args.shape.now) n c.args.numbers.now) count in
    ends_stepped encode call (sparse (shape_in c.args.shape.now) c.in_ok-n.n c.args.numbers.now) c.sparse.ensures (search (judged, results))
