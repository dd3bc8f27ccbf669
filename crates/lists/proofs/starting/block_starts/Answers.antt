-- `block_starts`: the starts of the blocks before this one are known.
use borrow.Author.Rules.{rules}
use Rattle.lists.proofs.Starts.{starts_laws}
use Rattle.lists.proofs.starting.block_starts.Goals as goal

pub loop-b-init : goal.loop-b-init
loop-b-init c = search (rules, starts_laws)

pub offset_bounds-places-b : goal.offset_bounds-places-b
offset_bounds-places-b c = search (rules, starts_laws)

pub bounds-places-b : goal.bounds-places-b
bounds-places-b c = search (rules, starts_laws)

pub offset_bounds-s-at : goal.offset_bounds-s-at
offset_bounds-s-at c = search (rules, starts_laws)

pub slice_bounds-start_of-count : goal.slice_bounds-start_of-count
slice_bounds-start_of-count c = search (rules, starts_laws)

pub slice_bounds-start_of-start : goal.slice_bounds-start_of-start
slice_bounds-start_of-start c = search (rules, starts_laws)

pub slice_bounds-start_of-end : goal.slice_bounds-start_of-end
slice_bounds-start_of-end c = search (rules, starts_laws)

pub start_of-requires : goal.start_of-requires
start_of-requires c = search (rules, starts_laws)

pub offset_bounds-starts-b : goal.offset_bounds-starts-b
offset_bounds-starts-b c = search (rules, starts_laws)

pub bounds-starts-b : goal.bounds-starts-b
bounds-starts-b c = search (rules, starts_laws)

pub overflow_step-b : goal.overflow_step-b
overflow_step-b c = search (rules, starts_laws)

pub loop-b-smaller : goal.loop-b-smaller
loop-b-smaller c = search (rules, starts_laws)

pub loop-b-preserved : goal.loop-b-preserved
loop-b-preserved c = search (rules, starts_laws)

pub returns : goal.returns
returns c = search (rules, starts_laws)
