-- `differ_in_window`: the marks say which numbers of the window the first i rows have.
use Prim.Native.Nat.{◌-◌}
use Rattle.axes.specs.Numbers.{row_numbers}
use Rattle.axes.proofs.Marking.{Marked}
use Rattle.axes.proofs.differ_in_window.Given as goal

abbrev pub invariant-loop-i : goal.invariant-loop-i
invariant-loop-i l = Marked l.from l.n l.i (row_numbers l.a l.at l.w l.n l.s l.t) l.marks

abbrev pub decreases-loop-i : goal.decreases-loop-i
decreases-loop-i l = l.n - l.i
