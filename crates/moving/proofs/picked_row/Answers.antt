-- `picked_row`: at each turn the first k numbers are picked, and the others missing.
use borrow.Author.Rules.{rules}
use Rattle.moving.proofs.Picking.{laws}
use Rattle.moving.proofs.picked_row.Goals as goal

pub loop-k-init : goal.loop-k-init
loop-k-init c = search (rules, laws)

pub loop-k-preserved-then-width-place : goal.loop-k-preserved-then-width-place
loop-k-preserved-then-width-place c = search (rules, laws)

pub loop-k-preserved : goal.loop-k-preserved
loop-k-preserved c = search (rules, laws)

pub returns : goal.returns
returns c = search (rules, laws)
