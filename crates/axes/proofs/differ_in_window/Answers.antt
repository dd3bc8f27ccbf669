-- `differ_in_window`: the marks say which numbers of the window the first i rows have.
use borrow.Author.Rules.{rules}
use Rattle.axes.proofs.Marking.{marks}
use Rattle.axes.proofs.Numbering.{in_window}
use Rattle.axes.proofs.differ_in_window.Goals as goal

pub loop-i-init : goal.loop-i-init
loop-i-init c = search (rules, in_window, marks)

pub number_of-number-requires : goal.number_of-number-requires
number_of-number-requires c = search (rules, in_window, marks)

pub loop-i-preserved-then-number-from : goal.loop-i-preserved-then-number-from
loop-i-preserved-then-number-from c = search (rules, in_window, marks)

pub loop-i-preserved-then-mark-ge4096 : goal.loop-i-preserved-then-mark-ge4096
loop-i-preserved-then-mark-ge4096 c = search (rules, in_window, marks)

pub returns-then-marks-mark : goal.returns-then-marks-mark
returns-then-marks-mark c = search (rules, in_window, marks)

pub loop-i-preserved : goal.loop-i-preserved
loop-i-preserved c = search (rules, in_window, marks)
