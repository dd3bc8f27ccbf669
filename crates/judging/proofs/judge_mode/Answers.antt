-- `judge_mode`: by the sign, then by the value.
use Rattle.std.proofs.Common.{arith}
use Rattle.shapes.proofs.Reading.{handed_over}
use Rattle.judging.proofs.Modes.{mode_negative, mode_alone, mode_together, mode_large}
use Rattle.judging.proofs.judge_mode.Goals as goal

pub returns-in_err-number : goal.returns-in_err-number
returns-in_err-number c = rw c.from_residual.ensures (mode_negative _ (handed_over _ c.ranges.mode c.sign_of.ensures.is) c.in_err-number.was)

pub returns-in-0 : goal.returns-in-0
returns-in-0 c = mode_alone _ (handed_over _ c.ranges.mode c.sign_of.ensures.is) c.in_ok-number.was c.in-0.is

pub returns-in-1 : goal.returns-in-1
returns-in-1 c = mode_together _ (handed_over _ c.ranges.mode c.sign_of.ensures.is) c.in_ok-number.was c.in-1.is

pub returns-in_default : goal.returns-in_default
returns-in_default c =
    mode_large _ (handed_over _ c.ranges.mode c.sign_of.ensures.is) c.in_ok-number.was (λ e. omega (arith, e)) (λ e. omega (arith, e))
