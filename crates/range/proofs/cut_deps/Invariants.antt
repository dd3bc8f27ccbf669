-- `cut_deps`: at each turn what is left of the first i entries is the table.
use Rattle.range.proofs.Cutting.{Cutting}
use Rattle.range.proofs.cut_deps.Given as goal

abbrev pub invariant-loop-i : goal.invariant-loop-i
invariant-loop-i l = Cutting l.rank l.deps l.cut l.s l.at l.initial.part l.part l.n l.i
