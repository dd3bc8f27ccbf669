-- `judge_range`: by the signs of both ends, then by their size.
use Rattle.shapes.proofs.Reading.{handed_over}
use Rattle.judging.proofs.RangeEnds.{start_negative, last_negative, start_large, last_large, range_good}
use Rattle.judging.proofs.judge_range.Goals as goal

pub returns-in_err-from : goal.returns-in_err-from
returns-in_err-from c =
    rw c.from_residual.ensures (start_negative _ _ (handed_over _ c.ranges.start c.sign_of.ensures.is) c.in_err-from.was)

pub returns-in_err-to : goal.returns-in_err-to
returns-in_err-to c =
    rw c.from_residual-in_err-to.ensures (last_negative _ _ (handed_over _ c.ranges.end c.sign_of-2.ensures.is) c.in_err-to.was)

pub returns-then-from-gt-PRODUCT_LIMIT : goal.returns-then-from-gt-PRODUCT_LIMIT
returns-then-from-gt-PRODUCT_LIMIT c =
    start_large _ _ (handed_over _ c.ranges.start c.sign_of.ensures.is) c.in_ok-from.was c.if-from-gt-PRODUCT_LIMIT.true

pub returns-then-to-gt-PRODUCT_LIMIT : goal.returns-then-to-gt-PRODUCT_LIMIT
returns-then-to-gt-PRODUCT_LIMIT c =
    last_large _ _ (handed_over _ c.ranges.end c.sign_of-2.ensures.is) c.in_ok-to.was c.if-to-gt-PRODUCT_LIMIT.true

pub returns : goal.returns
returns c =
    range_good _ _
    (handed_over _ c.ranges.start c.sign_of.ensures.is) c.in_ok-from.was c.if-from-gt-PRODUCT_LIMIT.false
    (handed_over _ c.ranges.end c.sign_of-2.ensures.is) c.in_ok-to.was c.if-to-gt-PRODUCT_LIMIT.false
