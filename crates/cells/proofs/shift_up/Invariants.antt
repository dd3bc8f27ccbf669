-- `shift_up`: at each turn the numbers from k up to e are written.
use Rattle.cells.proofs.Written.{Shifting}
use Rattle.cells.proofs.shift_up.Given as goal

abbrev pub invariant-loop-k : goal.invariant-loop-k
invariant-loop-k l = Shifting l.a l.e l.w l.initial.s l.k l.s
