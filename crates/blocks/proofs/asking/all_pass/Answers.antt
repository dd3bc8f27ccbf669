-- `all_pass`: all before this one have passed.
use borrow.Author.Rules.{rules}
use Rattle.blocks.proofs.Asks.{pass_laws}
use Rattle.blocks.proofs.asking.all_pass.Goals as goal

pub loop-i-init : goal.loop-i-init
loop-i-init c = search (rules, pass_laws)

pub offset_bounds-records-i : goal.offset_bounds-records-i
offset_bounds-records-i c = search (rules, pass_laws)

pub bounds-records-i : goal.bounds-records-i
bounds-records-i c = search (rules, pass_laws)

pub offset_bounds-s-at : goal.offset_bounds-s-at
offset_bounds-s-at c = search (rules, pass_laws)

pub slice_bounds-passes-count : goal.slice_bounds-passes-count
slice_bounds-passes-count c = search (rules, pass_laws)

pub slice_bounds-passes-start : goal.slice_bounds-passes-start
slice_bounds-passes-start c = search (rules, pass_laws)

pub slice_bounds-passes-end : goal.slice_bounds-passes-end
slice_bounds-passes-end c = search (rules, pass_laws)

pub passes-requires : goal.passes-requires
passes-requires c = search (rules, pass_laws)

pub returns-then-not-passes : goal.returns-then-not-passes
returns-then-not-passes c = search (rules, pass_laws)

pub overflow_step-i : goal.overflow_step-i
overflow_step-i c = search (rules, pass_laws)

pub loop-i-smaller : goal.loop-i-smaller
loop-i-smaller c = search (rules, pass_laws)

pub loop-i-preserved : goal.loop-i-preserved
loop-i-preserved c = search (rules, pass_laws)

pub returns : goal.returns
returns c = search (rules, pass_laws)
