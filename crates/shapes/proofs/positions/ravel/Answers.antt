-- `ravel`: the number of the components before k.
use borrow.Author.Rules.{rules}
use Rattle.shapes.proofs.Locating.{ravel_laws}
use Rattle.shapes.proofs.positions.ravel.Goals as goal

pub loop-k-init : goal.loop-k-init
loop-k-init c = search (rules, ravel_laws)

pub overflow_mul-number : goal.overflow_mul-number
overflow_mul-number c = search (rules, ravel_laws)

pub overflow_add-number : goal.overflow_add-number
overflow_add-number c = search (rules, ravel_laws)

pub loop-k-preserved : goal.loop-k-preserved
loop-k-preserved c = search (rules, ravel_laws)

pub returns : goal.returns
returns c = search (rules, ravel_laws)
