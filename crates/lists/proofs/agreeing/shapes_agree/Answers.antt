-- `shapes_agree`: the axes before this one agree.
use borrow.Author.Rules.{rules}
use Rattle.lists.proofs.Common.{below_laws, agrees_is, agree_is}
use Rattle.lists.proofs.agreeing.shapes_agree.Goals as goal

pub loop-axis-init : goal.loop-axis-init
loop-axis-init c = search (rules, below_laws)

pub returns-then-not-all_pass : goal.returns-then-not-all_pass
returns-then-not-all_pass c = search (rules, below_laws, agrees_is, agree_is)

pub overflow_step-axis : goal.overflow_step-axis
overflow_step-axis c = search (rules, below_laws)

pub loop-axis-smaller : goal.loop-axis-smaller
loop-axis-smaller c = search (rules, below_laws)

pub loop-axis-preserved : goal.loop-axis-preserved
loop-axis-preserved c = search (rules, below_laws, agrees_is)

pub returns : goal.returns
returns c = search (rules, below_laws, agree_is)
