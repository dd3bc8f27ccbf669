-- `dense`: the step is taken with a good shape, and the call is refused with any other.
use Rattle.rules.specs.CountsAndForms.{dense, dense_call}
use Rattle.rules.specs.Refusals.{given}
use Rattle.rules.proofs.HandedOn.{handed_on}
use Rattle.judging.proofs.Shapes.{from_refused, from_good}
use Rattle.form_calls.proofs.dense.Goals as goal

pub returns-in_err-judge_shape : goal.returns-in_err-judge_shape
unfolding dense_call
returns-in_err-judge_shape c =
    rw (handed_on c.from_residual.result c.from_residual.ensures.1)
    (from_refused (λ shape. given (dense shape)) _ _ c.judge_shape.ensures c.in_err-judge_shape.was)

pub dense-requires : goal.dense-requires
dense-requires c = record { judged = c.in_ok-judge_shape.ensures.shape; result_size_in_bounds = c.in_ok-judge_shape.ensures.result_long }

pub returns : goal.returns
unfolding dense_call
returns c = from_good (λ shape. given (dense shape)) _ _ c.in_ok-judge_shape.ensures c.dense.ensures
