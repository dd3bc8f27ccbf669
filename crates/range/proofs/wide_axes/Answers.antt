-- `wide_axes`: at each turn the axes from axis k on are counted.
use borrow.Author.Rules.{rules}
use Rattle.range.proofs.Axes.{counting}
use Rattle.range.proofs.wide_axes.Goals as goal

pub loop-k-init : goal.loop-k-init
loop-k-init c = search (rules, counting)

pub loop-k-preserved-then-get-gt1 : goal.loop-k-preserved-then-get-gt1
loop-k-preserved-then-get-gt1 c = search (rules, counting)

pub loop-k-preserved : goal.loop-k-preserved
loop-k-preserved c = search (rules, counting)

pub returns : goal.returns
returns c = search (rules, counting)
