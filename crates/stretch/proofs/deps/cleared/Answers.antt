-- `cleared`: at each turn the row is 0 on the stretched axes below k.
use mathlib.Core.Path.{◌∙◌}
use Rattle.stretch.proofs.Clearing.{laws, turn, pass}
use borrow.Author.Rules.{rules}
use Rattle.stretch.proofs.deps.cleared.Goals as goal
use Rattle.stretch.proofs.deps.cleared.Goals.{then-is_stretched, else-is_stretched}

pub loop-k-preserved : goal.loop-k-preserved
loop-k-preserved c =
    elim c.if-is_stretched.branch [
      | then-is_stretched w ↦ turn c.loop-k.invariant c.loop-k-test.true c.is_stretched.ensures w.if-is_stretched.true (w.row-is ∙ w.store.ensures)
      | else-is_stretched w ↦ pass c.loop-k.invariant c.loop-k-test.true c.is_stretched.ensures w.if-is_stretched.false w.row-is
    ]

pub returns : goal.returns
returns c = search (rules, laws)
