-- `good_components`: the numbers before k passed.
use lib.ListN.{length}
use Rattle.rules.specs.Arguments.{up_to}
use Rattle.rules.specs.Limits.{component_limit}
use Rattle.tables.proofs.Passing.{Passed}
use Rattle.shapes.proofs.numbers.good_components.Given as goal

abbrev pub invariant-loop-k : goal.invariant-loop-k
invariant-loop-k l = Passed (up_to component_limit) (length l.s) l.k l.s
