-- `move_entry`: at each turn the first k of n numbers are sums, and small.
use Rattle.entries.proofs.Placing.{Placing}
use Rattle.entries.proofs.standing.move_entry.Given as goal

abbrev pub invariant-loop-k : goal.invariant-loop-k
invariant-loop-k l = Placing l.p l.from l.start l.n l.w l.to l.k l.initial.window l.window
