-- `is_stretched`: each answer by its own law.
use Rattle.stretch.proofs.StretchedAxes.{added_axis, wide_axis, narrow_axis}
use borrow.Author.Rules.{rules}
use Rattle.stretch.proofs.spread.is_stretched.Goals as goal

pub returns-then-old-axis : goal.returns-then-old-axis
returns-then-old-axis c = search (rules, added_axis)

pub returns-then-get-eq1 : goal.returns-then-get-eq1
returns-then-get-eq1 c = search (rules, narrow_axis)

pub returns-else-get-eq1 : goal.returns-else-get-eq1
returns-else-get-eq1 c = search (rules, wide_axis)
