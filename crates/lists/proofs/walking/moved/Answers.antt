-- `moved`: the places before this one have been moved.
use borrow.Author.Rules.{rules}
use Rattle.lists.proofs.Beginning.{moved_laws}
use Rattle.lists.proofs.walking.moved.Goals as goal

pub loop-i-init : goal.loop-i-init
loop-i-init c = search (rules, moved_laws)

pub offset_bounds-places-i : goal.offset_bounds-places-i
offset_bounds-places-i c = search (rules, moved_laws)

pub bounds-places-i : goal.bounds-places-i
bounds-places-i c = search (rules, moved_laws)

pub further-requires : goal.further-requires
further-requires c = search (rules, moved_laws)

pub offset_bounds-moved-i : goal.offset_bounds-moved-i
offset_bounds-moved-i c = search (rules, moved_laws)

pub bounds-moved-i : goal.bounds-moved-i
bounds-moved-i c = search (rules, moved_laws)

pub overflow_step-i : goal.overflow_step-i
overflow_step-i c = search (rules, moved_laws)

pub loop-i-smaller : goal.loop-i-smaller
loop-i-smaller c = search (rules, moved_laws)

pub loop-i-preserved : goal.loop-i-preserved
loop-i-preserved c = search (rules, moved_laws)

pub returns : goal.returns
returns c = search (rules, moved_laws)
