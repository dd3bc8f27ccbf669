-- `measure_all`: the measures of the blocks before this one are taken together.
use borrow.Author.Rules.{rules}
use Rattle.blocks.proofs.Measures.{fold_laws}
use Rattle.blocks.proofs.measuring.measure_all.Goals as goal

pub loop-i-init : goal.loop-i-init
loop-i-init c = search (rules, fold_laws)

pub offset_bounds-records-i : goal.offset_bounds-records-i
offset_bounds-records-i c = search (rules, fold_laws)

pub bounds-records-i : goal.bounds-records-i
bounds-records-i c = search (rules, fold_laws)

pub offset_bounds-starts-i : goal.offset_bounds-starts-i
offset_bounds-starts-i c = search (rules, fold_laws)

pub bounds-starts-i : goal.bounds-starts-i
bounds-starts-i c = search (rules, fold_laws)

pub offset_bounds-s-at : goal.offset_bounds-s-at
offset_bounds-s-at c = search (rules, fold_laws)

pub slice_bounds-measured-count : goal.slice_bounds-measured-count
slice_bounds-measured-count c = search (rules, fold_laws)

pub slice_bounds-measured-start : goal.slice_bounds-measured-start
slice_bounds-measured-start c = search (rules, fold_laws)

pub slice_bounds-measured-end : goal.slice_bounds-measured-end
slice_bounds-measured-end c = search (rules, fold_laws)

pub measured-requires : goal.measured-requires
measured-requires c = search (rules, fold_laws)

pub added-total-requires : goal.added-total-requires
added-total-requires c = search (rules, fold_laws)

pub overflow_step-i : goal.overflow_step-i
overflow_step-i c = search (rules, fold_laws)

pub loop-i-smaller : goal.loop-i-smaller
loop-i-smaller c = search (rules, fold_laws)

pub loop-i-preserved : goal.loop-i-preserved
loop-i-preserved c = search (rules, fold_laws)

pub returns : goal.returns
returns c = search (rules, fold_laws)
