-- `shared_fit`: at each turn the first k shared axes fit.
use Rattle.stretch.proofs.StretchedAxes.{sharing}
use borrow.Author.Rules.{rules}
use Rattle.stretch.proofs.spread.shared_fit.Goals as goal

pub returns-then-not-axis_fits : goal.returns-then-not-axis_fits
returns-then-not-axis_fits c = search (rules, sharing)

pub loop-k-preserved : goal.loop-k-preserved
loop-k-preserved c = search (rules, sharing)

pub returns : goal.returns
returns c = search (rules, sharing)
