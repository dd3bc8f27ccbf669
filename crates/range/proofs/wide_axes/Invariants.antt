-- `wide_axes`: at each turn the axes from axis k on are counted.
use Rattle.range.proofs.Axes.{Counted}
use Rattle.range.proofs.wide_axes.Given as goal

abbrev pub invariant-loop-k : goal.invariant-loop-k
invariant-loop-k l = Counted l.at l.rank l.s l.count l.first l.k
