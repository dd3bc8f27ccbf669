-- `find_all`: index by index.
use Rattle.rules.specs.Record.{layout_in}
use Rattle.lookups.proofs.FindingAll.{Looked}
use Rattle.lookups.proofs.many.find_all.Given as goal

abbrev pub invariant-loop-i : goal.invariant-loop-i
invariant-loop-i l = Looked (layout_in l.s) l.head.rank l.n l.indices l.initial.res l.i l.res
