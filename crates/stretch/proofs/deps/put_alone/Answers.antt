-- `put_alone`: at each turn the entry and what it yields on the first axes are in the table.
use Rattle.stretch.proofs.Yields.{first_over, start, all_taken, turn, stop, done}
use Rattle.stretch.proofs.deps.put_alone.Goals as goal

pub returns-then-not-put_row : goal.returns-then-not-put_row
returns-then-not-put_row c = first_over c.requires c.put_row.ensures c.if-not-put_row.true

pub loop-axis-init : goal.loop-axis-init
loop-axis-init c = start c.requires c.put_row.ensures c.if-not-put_row.false

pub returns-then-not-put_axis : goal.returns-then-not-put_axis
returns-then-not-put_axis c = all_taken c.requires c.put_row.ensures c.if-not-put_row.false
    (stop c.loop-axis.invariant c.loop-axis-test.true c.put_axis.ensures c.if-not-put_axis.true)

pub loop-axis-preserved : goal.loop-axis-preserved
loop-axis-preserved c = turn c.loop-axis.invariant c.loop-axis-test.true c.put_axis.ensures c.if-not-put_axis.false

pub returns : goal.returns
returns c = all_taken c.requires c.put_row.ensures c.if-not-put_row.false (done c.loop-axis.invariant c.loop-axis-test.false)
