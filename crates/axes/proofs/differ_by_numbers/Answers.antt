-- `differ_by_numbers`: no number below the window stands at two rows.
use mathlib.Core.Bool.{not}
use mathlib.Core.Path.{ap}
use native.Mathlib.Omega.{arith}
use borrow.Author.Rules.{rules}
use Rattle.axes.proofs.Marking.{apart_turn}
use Rattle.axes.proofs.Numbering.{windows, windows_done}
use Rattle.axes.proofs.differ_by_numbers.Goals as goal

pub returns-then-not-differ_in_window : goal.returns-then-not-differ_in_window
returns-then-not-differ_in_window c = search (rules, windows)

pub returns : goal.returns
returns c = search (rules, windows)

pub returns-else-not-differ_in_window : goal.returns-else-not-differ_in_window
returns-else-not-differ_in_window c =
    windows_done c.requires c.product-size.ensures
    (apart_turn c.differ_in_window.result c.loop-from.invariant c.differ_in_window.ensures (ap not c.if-not-differ_in_window.false)) (omega arith)
