-- `any_zero`: none of the extents before the axis is zero.
use borrow.Author.Rules.{rules}
use Rattle.shapes.proofs.Passing.{zero_laws}
use Rattle.shapes.proofs.extents.any_zero.Goals as goal

pub returns-then-extent-eq0 : goal.returns-then-extent-eq0
returns-then-extent-eq0 c = search (rules, zero_laws)

pub loop-axis-preserved : goal.loop-axis-preserved
loop-axis-preserved c = search (rules, zero_laws)

pub returns : goal.returns
returns c = search (rules, zero_laws)
