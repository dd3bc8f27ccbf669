-- `is_diagonal_in_rows`: one test after the other.
use Rattle.fold.proofs.Ended.{extents_there, one_axis, extents_differ, count_differs, dense_under, rows_there_in, rows_decide}
use Rattle.fold.proofs.ending.is_diagonal_in_rows.Goals as goal

pub returns-then-rank-eq1 : goal.returns-then-rank-eq1
returns-then-rank-eq1 c = one_axis c.requires.0 c.requires.1 c.get-rank.ensures.0 c.if-rank-eq1.true

pub alike-requires : goal.alike-requires
alike-requires c = extents_there c.requires.0 c.requires.1 c.get-rank.ensures.0

pub returns-then-not-alike : goal.returns-then-not-alike
returns-then-not-alike c = extents_differ c.requires.0 c.requires.1 c.get-rank.ensures.0 c.if-rank-eq1.false c.alike.ensures c.if-not-alike.true

pub returns-then-count-get : goal.returns-then-count-get
returns-then-count-get c = count_differs c.requires.0 c.requires.1 c.get-rank.ensures.0 c.if-rank-eq1.false c.alike.ensures c.if-not-alike.false c.get-count.ensures.0 c.get.ensures.0 c.if-count-get.true

pub overflow_sub-rank : goal.overflow_sub-rank
overflow_sub-rank c = dense_under c.requires.0 c.requires.1 c.get-rank.ensures.0 c.if-rank-eq1.false c.alike.ensures c.if-not-alike.false c.get-count.ensures.0 c.get.ensures.0 c.if-count-get.false c.get-2.ensures.0

pub rows_alike-requires : goal.rows_alike-requires
rows_alike-requires c = rows_there_in c.requires.0 c.requires.1 c.get-rank.ensures.0 c.if-rank-eq1.false c.alike.ensures c.if-not-alike.false c.get-count.ensures.0 c.get.ensures.0 c.if-count-get.false c.get-2.ensures.0

pub returns : goal.returns
returns c = rows_decide c.requires.0 c.requires.1 c.get-rank.ensures.0 c.if-rank-eq1.false c.alike.ensures c.if-not-alike.false c.get-count.ensures.0 c.get.ensures.0 c.if-count-get.false c.get-2.ensures.0 c.rows_alike.ensures
