-- `differ_by_numbers`: no number below the window stands at two rows.
use Prim.Native.Nat.{◌-◌}
use Rattle.axes.specs.Numbers.{row_numbers}
use Rattle.axes.proofs.Marking.{Apart}
use Rattle.axes.proofs.differ_by_numbers.Given as goal

abbrev pub invariant-loop-from : goal.invariant-loop-from
invariant-loop-from l = Apart l.from (row_numbers l.a l.at l.w l.n l.s l.t)

abbrev pub decreases-loop-from : goal.decreases-loop-from
decreases-loop-from l = l.size - l.from
