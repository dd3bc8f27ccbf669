-- `extents_by`: the extents before this one are there.
use borrow.Author.Rules.{rules}
use Rattle.blocks.proofs.Shapes.{extents_laws}
use Rattle.blocks.proofs.deciding.extents_by.Goals as goal

pub loop-axis-init : goal.loop-axis-init
loop-axis-init c = search (rules, extents_laws)

pub extent_by-requires : goal.extent_by-requires
extent_by-requires c = search (rules, extents_laws)

pub offset_bounds-extents-axis : goal.offset_bounds-extents-axis
offset_bounds-extents-axis c = search (rules, extents_laws)

pub bounds-extents-axis : goal.bounds-extents-axis
bounds-extents-axis c = search (rules, extents_laws)

pub overflow_step-axis : goal.overflow_step-axis
overflow_step-axis c = search (rules, extents_laws)

pub loop-axis-smaller : goal.loop-axis-smaller
loop-axis-smaller c = search (rules, extents_laws)

pub loop-axis-preserved : goal.loop-axis-preserved
loop-axis-preserved c = search (rules, extents_laws)

pub returns : goal.returns
returns c = search (rules, extents_laws)
