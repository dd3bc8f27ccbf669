-- `unravel_into`: the components from k on are written.
use borrow.Author.Rules.{rules}
use Rattle.axes.proofs.Indices.{laws}
use Rattle.axes.proofs.unravel_into.Goals as goal

pub loop-k-init : goal.loop-k-init
loop-k-init c = search (rules, laws)

pub nonzero_rem-left : goal.nonzero_rem-left
nonzero_rem-left c = search (rules, laws)

pub store-requires : goal.store-requires
store-requires c = search (rules, laws)

pub nonzero_div-left : goal.nonzero_div-left
nonzero_div-left c = search (rules, laws)

pub loop-k-preserved : goal.loop-k-preserved
loop-k-preserved c = search (rules, laws)
