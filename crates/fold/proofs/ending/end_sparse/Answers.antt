-- `end_sparse`: without axes, a diagonal, or as it was.
use Rattle.fold.proofs.Ended.{refuses_scalar, stays_sparse, ask_diagonal_lem, becomes_diagonal}
use Rattle.fold.proofs.ending.end_sparse.Goals as goal

pub returns-then-get-eq0 : goal.returns-then-get-eq0
returns-then-get-eq0 c = refuses_scalar c.requires c.get.ensures.0 c.if-get-eq0.true _

pub bare-requires : goal.bare-requires
bare-requires c = ask_diagonal_lem c.requires c.get.ensures.0 c.if-get-eq0.false c.is_diagonal_in_rows.ensures c.get-dense.ensures.0

pub returns-then-is_diagonal_in_rows : goal.returns-then-is_diagonal_in_rows
returns-then-is_diagonal_in_rows c = becomes_diagonal c.requires c.get.ensures.0 c.if-get-eq0.false c.is_diagonal_in_rows.ensures c.get-dense.ensures.0 c.if-is_diagonal_in_rows.true c.bare.ensures

pub returns-else-is_diagonal_in_rows : goal.returns-else-is_diagonal_in_rows
returns-else-is_diagonal_in_rows c = stays_sparse c.requires c.get.ensures.0 c.if-get-eq0.false c.is_diagonal_in_rows.ensures c.if-is_diagonal_in_rows.false
