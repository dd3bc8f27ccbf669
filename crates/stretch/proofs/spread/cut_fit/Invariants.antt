-- `cut_fit`: at each turn the axes from the rank up to k have extent 1.
use Rattle.stretch.proofs.StretchedAxes.{Cutting}
use Rattle.stretch.proofs.spread.cut_fit.Given as goal

abbrev pub invariant-loop-k : goal.invariant-loop-k
invariant-loop-k l = Cutting l.old l.from l.rank l.k
