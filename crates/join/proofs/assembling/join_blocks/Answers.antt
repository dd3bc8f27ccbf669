-- `join_blocks`: by the way in which the blocks are joined.
use borrow.Author.Rules.{rules}
use Rattle.join.proofs.Joins.{ask_join, not_joined, ask_dense_lem, dense_said, ask_diagonal_lem, diagonal_said, ask_sparse_lem, rows_said}
use Rattle.join.proofs.assembling.join_blocks.Goals as goal

pub join_of-join-requires : goal.join_of-join-requires
join_of-join-requires c = ask_join c.requires.join_asked c.requires.counts

pub join_bare-requires : goal.join_bare-requires
join_bare-requires c = ask_dense_lem c.requires.join_asked (rw c.requires.counts at c.join_of-join.ensures.is) c.whole_extents-extents.result (search rules) c.whole_extents-extents.ensures c.in-Dense.is

pub join_diagonal-requires : goal.join_diagonal-requires
join_diagonal-requires c = ask_diagonal_lem c.requires.join_asked (rw c.requires.counts at c.join_of-join.ensures.is) c.whole_extents-extents.result (search rules) c.whole_extents-extents.ensures c.in-Diagonal.is

pub join_rows-requires : goal.join_rows-requires
join_rows-requires c = ask_sparse_lem c.requires.join_asked (rw c.requires.counts at c.join_of-join.ensures.is) c.whole_extents-extents.result (search rules) c.whole_extents-extents.ensures c.in-Rows.is

pub returns-in-Unjoinable : goal.returns-in-Unjoinable
returns-in-Unjoinable c = not_joined c.requires.join_asked (rw c.requires.counts at c.join_of-join.ensures.is) c.in-Unjoinable.is _

pub returns-in-Dense : goal.returns-in-Dense
returns-in-Dense c = dense_said c.requires.join_asked (rw c.requires.counts at c.join_of-join.ensures.is) c.whole_extents-extents.result (search rules) c.whole_extents-extents.ensures c.in-Dense.is c.join_bare.ensures

pub returns-in-Diagonal : goal.returns-in-Diagonal
returns-in-Diagonal c = diagonal_said c.requires.join_asked (rw c.requires.counts at c.join_of-join.ensures.is) c.whole_extents-extents.result (search rules) c.whole_extents-extents.ensures c.in-Diagonal.is c.join_diagonal.ensures

pub returns-in-Rows : goal.returns-in-Rows
returns-in-Rows c = rows_said c.requires.join_asked (rw c.requires.counts at c.join_of-join.ensures.is) c.whole_extents-extents.result (search rules) c.whole_extents-extents.ensures c.in-Rows.is c.join_rows.ensures
