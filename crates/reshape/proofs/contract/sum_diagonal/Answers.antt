-- `sum_diagonal`: the count of rows is stored, and the head of a diagonal or of a dense layout.
use Rattle.reshape.proofs.Contracting.{ask_diagonal_lem, diagonal_stays, diagonal_turns}
use Rattle.reshape.proofs.contract.sum_diagonal.Goals as goal

pub write_head-requires : goal.write_head-requires
write_head-requires c = ask_diagonal_lem c.requires.sum_asked c.requires.no_dense_axis c.store.ensures

pub returns-then-rank-gt1 : goal.returns-then-rank-gt1
returns-then-rank-gt1 c = diagonal_stays c.requires.sum_asked c.requires.no_dense_axis c.store.ensures c.if-rank-gt1.true c.write_head.ensures

pub returns-else-rank-gt1 : goal.returns-else-rank-gt1
returns-else-rank-gt1 c = diagonal_turns c.requires.sum_asked c.requires.no_dense_axis c.store.ensures c.if-rank-gt1.false c.write_head-else-rank-gt1.ensures
