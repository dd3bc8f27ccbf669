-- `write_line`: at each turn the first i numbers are written.
use Rattle.text.proofs.Spelling.{Lining}
use Rattle.text.proofs.write_line.Given as goal

abbrev pub invariant-loop-i : goal.invariant-loop-i
invariant-loop-i l = Lining l.line l.at l.initial.out l.i l.next l.out
