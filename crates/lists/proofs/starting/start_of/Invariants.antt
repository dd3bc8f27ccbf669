-- `start_of`: the numbers before k stand in the array.
use Prim.Native.Nat.{◌-◌}
use lib.IntN.{pos}
use lib.ListN.{get_or}
use Rattle.rules.specs.Record.{natural}
use Rattle.lists.proofs.Entering.{Filled}
use Rattle.lists.proofs.starting.start_of.Given as goal

abbrev pub invariant-loop-k : goal.invariant-loop-k
invariant-loop-k l = Filled (λ j. natural (get_or l.s j (pos 0))) l.rank l.k l.start

abbrev pub decreases-loop-k : goal.decreases-loop-k
decreases-loop-k l = l.rank - l.k
