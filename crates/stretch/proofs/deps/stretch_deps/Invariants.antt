-- `stretch_deps`: where the shape stays the dependencies do; else at each turn what the first i dependencies yield is in the table.
use Rattle.stretch.proofs.Depending.{Depending}
use Rattle.stretch.proofs.deps.stretch_deps.Given as goal

abbrev pub invariant-loop-i : goal.invariant-loop-i
invariant-loop-i l = Depending l.mode l.first l.count l.old l.from l.at l.rank l.shape l.to l.i l.initial.part l.part
