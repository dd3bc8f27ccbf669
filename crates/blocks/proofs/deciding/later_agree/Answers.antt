-- `later_agree`: the axes before this one agree.
use borrow.Author.Rules.{rules}
use Rattle.blocks.proofs.Ways.{later_laws}
use Rattle.blocks.proofs.deciding.later_agree.Goals as goal

pub loop-axis-init : goal.loop-axis-init
loop-axis-init c = search (rules, later_laws)

pub extent_by-common-requires : goal.extent_by-common-requires
extent_by-common-requires c = search (rules, later_laws)

pub all_pass-requires : goal.all_pass-requires
all_pass-requires c = search (rules, later_laws)

pub returns-then-not-all_pass : goal.returns-then-not-all_pass
returns-then-not-all_pass c = search (rules, later_laws)

pub overflow_step-axis : goal.overflow_step-axis
overflow_step-axis c = search (rules, later_laws)

pub loop-axis-smaller : goal.loop-axis-smaller
loop-axis-smaller c = search (rules, later_laws)

pub loop-axis-preserved : goal.loop-axis-preserved
loop-axis-preserved c = search (rules, later_laws)

pub returns : goal.returns
returns c = search (rules, later_laws)
