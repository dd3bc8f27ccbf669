-- `starts_on`: the numbers before this one are those of the line.
use borrow.Author.Rules.{rules}
use Rattle.blocks.proofs.Runs.{on_laws}
use Rattle.blocks.proofs.running.starts_on.Goals as goal

pub loop-axis-init : goal.loop-axis-init
loop-axis-init c = search (rules, on_laws)

pub offset_bounds-start-axis : goal.offset_bounds-start-axis
offset_bounds-start-axis c = search (rules, on_laws)

pub bounds-start-axis : goal.bounds-start-axis
bounds-start-axis c = search (rules, on_laws)

pub number_on-requires : goal.number_on-requires
number_on-requires c = search (rules, on_laws)

pub returns-then-start-axis : goal.returns-then-start-axis
returns-then-start-axis c = search (rules, on_laws)

pub overflow_step-axis : goal.overflow_step-axis
overflow_step-axis c = search (rules, on_laws)

pub loop-axis-smaller : goal.loop-axis-smaller
loop-axis-smaller c = search (rules, on_laws)

pub loop-axis-preserved : goal.loop-axis-preserved
loop-axis-preserved c = search (rules, on_laws)

pub returns : goal.returns
returns c = search (rules, on_laws)
