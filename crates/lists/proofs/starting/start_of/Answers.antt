-- `start_of`: the numbers before k stand in the array.
use borrow.Author.Rules.{rules}
use Rattle.lists.proofs.Starts.{start_laws}
use Rattle.lists.proofs.starting.start_of.Goals as goal

pub loop-k-init : goal.loop-k-init
loop-k-init c = search (rules, start_laws)

pub natural_at-requires : goal.natural_at-requires
natural_at-requires c = search (rules, start_laws)

pub offset_bounds-start-k : goal.offset_bounds-start-k
offset_bounds-start-k c = search (rules, start_laws)

pub bounds-start-k : goal.bounds-start-k
bounds-start-k c = search (rules, start_laws)

pub overflow_step-k : goal.overflow_step-k
overflow_step-k c = search (rules, start_laws)

pub loop-k-smaller : goal.loop-k-smaller
loop-k-smaller c = search (rules, start_laws)

pub loop-k-preserved : goal.loop-k-preserved
loop-k-preserved c = search (rules, start_laws)

pub returns : goal.returns
returns c = search (rules, start_laws)
