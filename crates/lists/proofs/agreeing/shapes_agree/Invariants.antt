-- `shapes_agree`: the axes before this one agree.
use Prim.Native.Nat.{◌-◌}
use Rattle.rules.specs.Lists.{below}
use Rattle.rules.specs.Shapes.{axis_agrees}
use Rattle.tables.proofs.Passing.{Passed}
use Rattle.lists.specs.Asked.{shapes_at}
use Rattle.lists.proofs.agreeing.shapes_agree.Given as goal

abbrev pub invariant-loop-axis : goal.invariant-loop-axis
invariant-loop-axis l = Passed (λ a. axis_agrees a (shapes_at l.places.count l.places.at l.s)) l.axes l.axis (below l.axes)

abbrev pub decreases-loop-axis : goal.decreases-loop-axis
decreases-loop-axis l = l.axes - l.axis
