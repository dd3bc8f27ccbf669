-- `eq_nonzeros`: by the heads, then by the numbers of the rows.
use mathlib.Core.Path.{refl}
use Rattle.fold.proofs.Comparing.{heads_differ, dense_below, rows_in, rows_compared}
use mathlib.Core.Path.{refl}
use Rattle.fold.proofs.folding.eq_nonzeros.Goals as goal

pub returns-then-not-same_heads : goal.returns-then-not-same_heads
returns-then-not-same_heads c = heads_differ c.requires c.same_heads.ensures c.if-not-same_heads.true

pub overflow_sub-width : goal.overflow_sub-width
overflow_sub-width c = dense_below c.requires c.same_heads.ensures c.if-not-same_heads.false c.get.ensures.0 c.get-2.ensures.0 refl

pub same_numbers-requires : goal.same_numbers-requires
same_numbers-requires c = rows_in c.requires c.same_heads.ensures c.if-not-same_heads.false c.get.ensures.0 c.get-2.ensures.0 c.get-3.ensures.0

pub returns : goal.returns
returns c = rows_compared c.requires c.same_heads.ensures c.if-not-same_heads.false c.get.ensures.0 c.get-2.ensures.0 c.get-3.ensures.0 c.same_numbers.ensures
