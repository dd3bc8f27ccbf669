-- `ravel`: the number of the components before k.
use Rattle.shapes.proofs.Locating.{Raveled}
use Rattle.shapes.proofs.positions.ravel.Given as goal

abbrev pub invariant-loop-k : goal.invariant-loop-k
invariant-loop-k l = Raveled l.index l.shape l.k l.number
