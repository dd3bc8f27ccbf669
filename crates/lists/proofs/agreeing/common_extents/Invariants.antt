-- `common_extents`: the axes before this one have their largest extents.
use Prim.Native.Nat.{◌-◌}
use Rattle.rules.specs.Shapes.{common_extent}
use Rattle.lists.specs.Asked.{shapes_at}
use Rattle.lists.proofs.Entering.{Filled}
use Rattle.lists.proofs.agreeing.common_extents.Given as goal

abbrev pub invariant-loop-axis : goal.invariant-loop-axis
invariant-loop-axis l = Filled (λ a. common_extent a (shapes_at l.places.count l.places.at l.s)) l.axes l.axis l.extents

abbrev pub decreases-loop-axis : goal.decreases-loop-axis
decreases-loop-axis l = l.axes - l.axis
