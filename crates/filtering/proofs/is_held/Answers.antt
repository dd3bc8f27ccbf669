-- `is_held`: by the kind.
use mathlib.Core.Path.{refl}
use Rattle.rules.proofs.KindRead.{dense_number, diagonal_number, sparse_not_dense, sparse_not_diagonal}
use Rattle.filtering.proofs.Held.{held_dense, ask_diagonal_lem, held_diagonal, held_sparse}
use Rattle.filtering.proofs.is_held.Goals as goal

pub returns-in-Dense : goal.returns-in-Dense
returns-in-Dense c = held_dense c.requires refl (dense_number c.kind_at.ensures c.in-Dense.is) c.get.ensures.0 c.row_below.ensures

pub on_diagonal-requires : goal.on_diagonal-requires
on_diagonal-requires c = ask_diagonal_lem c.requires refl (diagonal_number c.kind_at.ensures c.in-Diagonal.is)

pub returns-in-Diagonal : goal.returns-in-Diagonal
returns-in-Diagonal c = held_diagonal c.requires refl (diagonal_number c.kind_at.ensures c.in-Diagonal.is) c.on_diagonal.ensures

pub returns-in-Sparse : goal.returns-in-Sparse
returns-in-Sparse c = held_sparse c.requires refl (sparse_not_dense c.kind_at.ensures c.in-Sparse.is) (sparse_not_diagonal c.kind_at.ensures c.in-Sparse.is) c.is_row.ensures
