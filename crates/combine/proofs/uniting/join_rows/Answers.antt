-- `join_rows`: the rows of both are lowered, and then merged.
use native.Mathlib.Omega.{arith}
use Rattle.combine.proofs.Joining.{lowered_stop, lower_there, ask_merge, rows_joined}
use Rattle.combine.proofs.uniting.join_rows.Goals as goal

pub overflow_sub-w : goal.overflow_sub-w
overflow_sub-w c = omega (arith, lower_there c.requires.both_asked c.lower_both.ensures c.get.ensures.0)

pub merge_into-requires : goal.merge_into-requires
merge_into-requires c = ask_merge c.requires.both_asked c.lower_both.ensures c.get.ensures.0 c.if-lower_both.true

pub returns-then-lower_both : goal.returns-then-lower_both
returns-then-lower_both c = rows_joined c.requires.both_asked c.lower_both.ensures c.get.ensures.0 c.if-lower_both.true c.merge_into.ensures

pub returns : goal.returns
returns c = lowered_stop c.requires.both_asked c.lower_both.ensures c.if-lower_both.false
