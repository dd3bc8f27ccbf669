-- `starts_run`: the blocks before this one start on the line.
use borrow.Author.Rules.{rules}
use borrow.Author.Tests.{not-false}
use Rattle.blocks.proofs.Runs.{run_turn, run_laws}
use Rattle.blocks.proofs.running.starts_run.Goals as goal

pub loop-i-init : goal.loop-i-init
loop-i-init c = search (rules, run_laws)

pub offset_bounds-starts-i : goal.offset_bounds-starts-i
offset_bounds-starts-i c = search (rules, run_laws)

pub bounds-starts-i : goal.bounds-starts-i
bounds-starts-i c = search (rules, run_laws)

pub starts_on-requires : goal.starts_on-requires
starts_on-requires c = search (rules, run_laws)

pub returns-then-not-starts_on : goal.returns-then-not-starts_on
returns-then-not-starts_on c = search (rules, run_laws)

pub offset_bounds-records-i : goal.offset_bounds-records-i
offset_bounds-records-i c = search (rules, run_laws)

pub bounds-records-i : goal.bounds-records-i
bounds-records-i c = search (rules, run_laws)

pub offset_bounds-s-at : goal.offset_bounds-s-at
offset_bounds-s-at c = search (rules, run_laws)

pub slice_bounds-extent-count : goal.slice_bounds-extent-count
slice_bounds-extent-count c = search (rules, run_laws)

pub slice_bounds-extent-start : goal.slice_bounds-extent-start
slice_bounds-extent-start c = search (rules, run_laws)

pub slice_bounds-extent-end : goal.slice_bounds-extent-end
slice_bounds-extent-end c = search (rules, run_laws)

pub extent-run-requires : goal.extent-run-requires
extent-run-requires c = search (rules, run_laws)

pub overflow_add-run : goal.overflow_add-run
overflow_add-run c = search (rules, run_laws)

pub overflow_step-i : goal.overflow_step-i
overflow_step-i c = search (rules, run_laws)

pub loop-i-smaller : goal.loop-i-smaller
loop-i-smaller c = search (rules, run_laws)

pub loop-i-preserved : goal.loop-i-preserved
loop-i-preserved c = run_turn c.requires.0 c.loop-i.invariant c.loop-i-test.true c.starts_on.ensures
    (not-false _ c.if-not-starts_on.false-raw) c.extent-run.ensures.0 c.extent-run.ensures.1

pub returns : goal.returns
returns c = search (rules, run_laws)
