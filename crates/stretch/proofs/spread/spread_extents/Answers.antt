-- `spread_extents`: at each turn the first k axes have their count of values.
use Rattle.stretch.proofs.StretchedAxes.{spreading}
use borrow.Author.Rules.{rules}
use Rattle.stretch.proofs.spread.spread_extents.Goals as goal

pub loop-k-init : goal.loop-k-init
loop-k-init c = search (rules, spreading)

pub store-requires : goal.store-requires
store-requires c = search (rules, spreading)

pub loop-k-preserved : goal.loop-k-preserved
loop-k-preserved c = search (rules, spreading)
