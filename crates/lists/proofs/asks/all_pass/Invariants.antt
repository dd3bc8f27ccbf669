-- `all_pass`: all before this one have passed.
use Prim.Native.Nat.{◌-◌}
use Rattle.tables.proofs.Passing.{Passed}
use Rattle.lists.specs.Places.{standing}
use Rattle.lists.specs.Asked.{asked}
use Rattle.lists.proofs.asks.all_pass.Given as goal

abbrev pub invariant-loop-i : goal.invariant-loop-i
invariant-loop-i l = Passed (asked l.ask) l.places.count l.i (standing l.places.count l.places.at l.s)

abbrev pub decreases-loop-i : goal.decreases-loop-i
decreases-loop-i l = l.places.count - l.i
