-- `common_extents`: the axes before this one have their largest extents.
use borrow.Author.Rules.{rules}
use Rattle.lists.proofs.Entering.{filled_laws}
use Rattle.lists.proofs.Common.{extent_is, common_is}
use Rattle.lists.proofs.agreeing.common_extents.Goals as goal

pub loop-axis-init : goal.loop-axis-init
loop-axis-init c = search (rules, filled_laws)

pub offset_bounds-extents-axis : goal.offset_bounds-extents-axis
offset_bounds-extents-axis c = search (rules, filled_laws)

pub bounds-extents-axis : goal.bounds-extents-axis
bounds-extents-axis c = search (rules, filled_laws)

pub overflow_step-axis : goal.overflow_step-axis
overflow_step-axis c = search (rules, filled_laws)

pub loop-axis-smaller : goal.loop-axis-smaller
loop-axis-smaller c = search (rules, filled_laws)

pub loop-axis-preserved : goal.loop-axis-preserved
loop-axis-preserved c = search (rules, filled_laws, extent_is)

pub returns : goal.returns
returns c = search (rules, filled_laws, common_is)
