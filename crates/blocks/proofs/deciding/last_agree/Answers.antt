-- `last_agree`: the axes before this one do not differ.
use borrow.Author.Rules.{rules}
use borrow.Author.Tests.{not-false}
use Rattle.blocks.proofs.Ways.{axes_turn, last_is, last_laws}
use Rattle.blocks.proofs.deciding.last_agree.Goals as goal

pub bounds-records-0 : goal.bounds-records-0
bounds-records-0 c = search (rules, last_laws)

pub overflow_sub-kept : goal.overflow_sub-kept
overflow_sub-kept c = search (rules, last_laws)

pub loop-axis-init : goal.loop-axis-init
loop-axis-init c = search (rules, last_laws)

pub offset_bounds-s-first : goal.offset_bounds-s-first
offset_bounds-s-first c = search (rules, last_laws)

pub slice_bounds-extent-count : goal.slice_bounds-extent-count
slice_bounds-extent-count c = search (rules, last_laws)

pub slice_bounds-extent-start : goal.slice_bounds-extent-start
slice_bounds-extent-start c = search (rules, last_laws)

pub slice_bounds-extent-end : goal.slice_bounds-extent-end
slice_bounds-extent-end c = search (rules, last_laws)

pub extent-e-requires : goal.extent-e-requires
extent-e-requires c = search (rules, last_laws)

pub all_pass-requires : goal.all_pass-requires
all_pass-requires c = search (rules, last_laws)

pub returns-then-not-all_pass : goal.returns-then-not-all_pass
returns-then-not-all_pass c = search (rules, last_laws)

pub overflow_step-axis : goal.overflow_step-axis
overflow_step-axis c = search (rules, last_laws)

pub loop-axis-smaller : goal.loop-axis-smaller
loop-axis-smaller c = search (rules, last_laws)

pub loop-axis-preserved : goal.loop-axis-preserved
loop-axis-preserved c = let pre = c.requires in
    axes_turn c.loop-axis.invariant c.loop-axis-test.true
    (last_is _ _ _ _ pre.each_at.0 pre.each_at.1 c.extent-e.ensures.0 c.all_pass.ensures) (not-false _ c.if-not-all_pass.false-raw)

pub returns : goal.returns
returns c = search (rules, last_laws)
