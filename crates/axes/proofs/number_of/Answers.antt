-- `number_of`: two components at once, and of others the first k at each turn.
use borrow.Author.Rules.{rules}
use Rattle.axes.proofs.Numbering.{pair_numbered, numbered}
use Rattle.axes.proofs.number_of.Goals as goal

pub low-requires : goal.low-requires
low-requires c = search (rules, pair_numbered)

pub low-requires-then-w-eq2 : goal.low-requires-then-w-eq2
low-requires-then-w-eq2 c = search (rules, pair_numbered)

pub overflow_mul-result : goal.overflow_mul-result
overflow_mul-result c = search (rules, pair_numbered)

pub low-requires-then-w-eq2-2 : goal.low-requires-then-w-eq2-2
low-requires-then-w-eq2-2 c = search (rules, pair_numbered)

pub overflow_add-result : goal.overflow_add-result
overflow_add-result c = search (rules, pair_numbered)

pub returns-then-w-eq2 : goal.returns-then-w-eq2
returns-then-w-eq2 c = search (rules, pair_numbered)

pub low-requires-in-loop-k : goal.low-requires-in-loop-k
low-requires-in-loop-k c = search (rules, numbered)

pub overflow_mul-number : goal.overflow_mul-number
overflow_mul-number c = search (rules, numbered)

pub low-requires-in-loop-k-2 : goal.low-requires-in-loop-k-2
low-requires-in-loop-k-2 c = search (rules, numbered)

pub overflow_add-number : goal.overflow_add-number
overflow_add-number c = search (rules, numbered)

pub loop-k-preserved : goal.loop-k-preserved
loop-k-preserved c = search (rules, numbered)

pub returns : goal.returns
returns c = search (rules, numbered)
