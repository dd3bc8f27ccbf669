-- `all_ones`: the extents before this one are 1.
use borrow.Author.Rules.{rules}
use Rattle.blocks.proofs.Told.{ones_laws}
use Rattle.blocks.proofs.reading.all_ones.Goals as goal

pub rank-axes-requires : goal.rank-axes-requires
rank-axes-requires c = search (rules, ones_laws)

pub loop-axis-init : goal.loop-axis-init
loop-axis-init c = search (rules, ones_laws)

pub extent-requires : goal.extent-requires
extent-requires c = search (rules, ones_laws)

pub returns-then-extent-ne1 : goal.returns-then-extent-ne1
returns-then-extent-ne1 c = search (rules, ones_laws)

pub overflow_step-axis : goal.overflow_step-axis
overflow_step-axis c = search (rules, ones_laws)

pub loop-axis-smaller : goal.loop-axis-smaller
loop-axis-smaller c = search (rules, ones_laws)

pub loop-axis-preserved : goal.loop-axis-preserved
loop-axis-preserved c = search (rules, ones_laws)

pub returns : goal.returns
returns c = search (rules, ones_laws)
