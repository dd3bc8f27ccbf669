-- `all_pass`: all before this one have passed.
use Prim.Native.Nat.{◌-◌}
use Rattle.tables.proofs.Passing.{Passed}
use Rattle.lists.specs.Records.{layouts_at}
use Rattle.blocks.specs.Asked.{asked}
use Rattle.blocks.proofs.asking.all_pass.Given as goal

abbrev pub invariant-loop-i : goal.invariant-loop-i
invariant-loop-i l = Passed (asked l.ask) l.records.count l.i (layouts_at l.records.count l.records.at l.s)

abbrev pub decreases-loop-i : goal.decreases-loop-i
decreases-loop-i l = l.records.count - l.i
