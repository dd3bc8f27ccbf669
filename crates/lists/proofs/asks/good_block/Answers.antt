-- `good_block`: the numbers of the start one after the other, then the flag.
use borrow.Author.Rules.{rules}
use Rattle.lists.proofs.Asking.{good_laws}
use Rattle.lists.proofs.asks.good_block.Goals as goal

pub loop-k-init : goal.loop-k-init
loop-k-init c = search (rules, good_laws)

pub up_to-requires : goal.up_to-requires
up_to-requires c = search (rules, good_laws)

pub returns-then-not-up_to : goal.returns-then-not-up_to
returns-then-not-up_to c = search (rules, good_laws)

pub overflow_step-k : goal.overflow_step-k
overflow_step-k c = search (rules, good_laws)

pub loop-k-smaller : goal.loop-k-smaller
loop-k-smaller c = search (rules, good_laws)

pub loop-k-preserved : goal.loop-k-preserved
loop-k-preserved c = search (rules, good_laws)

pub up_to-requires-2 : goal.up_to-requires-2
up_to-requires-2 c = search (rules, good_laws)

pub returns : goal.returns
returns c = search (rules, good_laws)
