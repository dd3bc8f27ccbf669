-- `diagonal`: the step is taken with a good shape, and the call is refused with any other.
use Rattle.rules.specs.CountsAndForms.{diagonal, diagonal_call}
use Rattle.rules.proofs.HandedOn.{handed_on}
use Rattle.judging.proofs.Shapes.{from_refused, from_good}
use Rattle.form_calls.proofs.diagonal.Goals as goal

pub returns-in_err-judge_shape : goal.returns-in_err-judge_shape
unfolding diagonal_call
returns-in_err-judge_shape c =
    rw (handed_on c.from_residual.result c.from_residual.ensures.1)
    (from_refused diagonal _ _ c.judge_shape.ensures c.in_err-judge_shape.was)

pub diagonal-requires : goal.diagonal-requires
diagonal-requires c = record { judged = c.in_ok-judge_shape.ensures.shape; result_size_in_bounds = c.in_ok-judge_shape.ensures.result_long }

pub returns : goal.returns
unfolding diagonal_call
returns c = from_good diagonal _ _ c.in_ok-judge_shape.ensures c.diagonal.ensures
