-- `unravel_into`: the components from k on are written.
use Rattle.axes.proofs.Indices.{Unraveling}
use Rattle.axes.proofs.unravel_into.Given as goal

abbrev pub invariant-loop-k : goal.invariant-loop-k
invariant-loop-k l = Unraveling l.number l.at l.rank l.s l.to l.initial.out l.left l.k l.out
