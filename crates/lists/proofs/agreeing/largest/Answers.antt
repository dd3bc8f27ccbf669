-- `largest`: the most so far, or one of those that are left.
use borrow.Author.Rules.{rules}
use Rattle.lists.proofs.Common.{most_laws}
use Rattle.lists.proofs.agreeing.largest.Goals as goal

pub loop-i-init : goal.loop-i-init
loop-i-init c = search (rules, most_laws)

pub offset_bounds-places-i : goal.offset_bounds-places-i
offset_bounds-places-i c = search (rules, most_laws)

pub bounds-places-i : goal.bounds-places-i
bounds-places-i c = search (rules, most_laws)

pub offset_bounds-s-at : goal.offset_bounds-s-at
offset_bounds-s-at c = search (rules, most_laws)

pub slice_bounds-measured-count : goal.slice_bounds-measured-count
slice_bounds-measured-count c = search (rules, most_laws)

pub slice_bounds-measured-start : goal.slice_bounds-measured-start
slice_bounds-measured-start c = search (rules, most_laws)

pub slice_bounds-measured-end : goal.slice_bounds-measured-end
slice_bounds-measured-end c = search (rules, most_laws)

pub measured-requires : goal.measured-requires
measured-requires c = search (rules, most_laws)

pub larger-most-requires : goal.larger-most-requires
larger-most-requires c = search (rules, most_laws)

pub overflow_step-i : goal.overflow_step-i
overflow_step-i c = search (rules, most_laws)

pub loop-i-smaller : goal.loop-i-smaller
loop-i-smaller c = search (rules, most_laws)

pub loop-i-preserved : goal.loop-i-preserved
loop-i-preserved c = search (rules, most_laws)

pub returns : goal.returns
returns c = search (rules, most_laws)
