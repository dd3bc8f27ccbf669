-- `common_rows`: the rows of both, lowered, what is common of them, and a head.
use native.Mathlib.Omega.{arith}
use Rattle.combine.proofs.Joining.{lower_there, ask_merge}
use Rattle.intersecting.proofs.CommonRows.{common_stop, ask_head, common_made}
use Rattle.intersecting.proofs.common_rows.Goals as goal

pub lower_both-requires : goal.lower_both-requires
lower_both-requires c = let pre = c.requires in record {
  both_asked = pre.both_asked;
  rising = λ _. pre.rising;
}

pub overflow_sub-w : goal.overflow_sub-w
overflow_sub-w c = omega (arith, lower_there c.requires.both_asked c.lower_both.ensures c.get.ensures.0)

pub common_into-requires : goal.common_into-requires
common_into-requires c = ask_merge c.requires.both_asked c.lower_both.ensures c.get.ensures.0 c.if-lower_both.true

pub write_head-requires : goal.write_head-requires
write_head-requires c = ask_head c.requires.both_asked c.lower_both.ensures c.if-lower_both.true c.get.ensures.0 c.common_into.ensures

pub returns-then-lower_both : goal.returns-then-lower_both
returns-then-lower_both c = common_made c.requires.both_asked c.lower_both.ensures c.if-lower_both.true c.get.ensures.0 c.common_into.ensures c.write_head.ensures

pub returns : goal.returns
returns c = common_stop c.requires.both_asked c.lower_both.ensures c.if-lower_both.false
