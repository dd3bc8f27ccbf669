-- `good_block`: the numbers of the start one after the other, then the flag.
use Prim.Native.Nat.{◌-◌}
use Rattle.lists.proofs.Asking.{GoodTo}
use Rattle.lists.proofs.asks.good_block.Given as goal

abbrev pub invariant-loop-k : goal.invariant-loop-k
invariant-loop-k l = GoodTo l.rank l.s l.k

abbrev pub decreases-loop-k : goal.decreases-loop-k
decreases-loop-k l = l.rank - l.k
