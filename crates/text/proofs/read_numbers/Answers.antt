-- `read_numbers`: at each turn the numbers of the bytes before that one are read.
use borrow.Author.Rules.{rules}
use Rattle.text.proofs.Reading.{stop_gap, laws}
use Rattle.text.proofs.read_numbers.Goals as goal

pub loop-byte-init : goal.loop-byte-init
loop-byte-init c = search (rules, laws)

pub returns-in_err-n : goal.returns-in_err-n
returns-in_err-n c =
    rw c.from_residual.ensures (stop_gap c.loop-byte.invariant c.loop-byte-test.true c.is_gap.ensures c.if-is_gap.true c.in_err-n.ensures)

pub loop-byte-preserved : goal.loop-byte-preserved
loop-byte-preserved c = search (rules, laws)

pub returns : goal.returns
returns c = search (rules, laws)
