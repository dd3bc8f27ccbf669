-- `cut_deps`: at each turn what is left of the first i entries is the table.
use native.Mathlib.Omega.{arith}
use borrow.Author.Rules.{rules}
use Rattle.range.proofs.Cutting.{ask_row_lem, can_add, cutting}
use Rattle.range.proofs.cut_deps.Goals as goal

pub loop-i-init : goal.loop-i-init
loop-i-init c = search (rules, cutting)

pub in_range-requires : goal.in_range-requires
in_range-requires c = search (rules, cutting)

pub loop-i-preserved-then-not-in_range : goal.loop-i-preserved-then-not-in_range
loop-i-preserved-then-not-in_range c = search (rules, cutting)

pub cut_row-row-requires : goal.cut_row-row-requires
cut_row-row-requires c = ask_row_lem c.loop-i.invariant c.loop-i-test.true c.in_range.ensures c.if-not-in_range.false-raw

pub insert_at-requires : goal.insert_at-requires
insert_at-requires c = search (rules, cutting)

pub overflow_add-n : goal.overflow_add-n
overflow_add-n c = omega (arith, (can_add c.loop-i.invariant c.loop-i-test.true c.in_range.ensures c.if-not-in_range.false-raw).few)

pub loop-i-preserved : goal.loop-i-preserved
loop-i-preserved c = search (rules, cutting)

pub is_increasing-requires : goal.is_increasing-requires
is_increasing-requires c = search (rules, cutting)

pub returns : goal.returns
returns c = search (rules, cutting)
