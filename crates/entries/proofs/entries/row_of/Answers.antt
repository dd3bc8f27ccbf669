-- `row_of`: by the kind.
use mathlib.Core.Path.{refl}
use native.Mathlib.Omega.{arith}
use Rattle.rules.proofs.KindRead.{dense_number, diagonal_number, sparse_not_dense, sparse_not_diagonal}
use Rattle.cells.proofs.Signed.{held_pos}
use Rattle.entries.proofs.Listing.{ask_index, is_index, number_fits, diagonal_case, row_ended, ask_read, is_row}
use borrow.Author.Rules.{rules}
use Rattle.entries.proofs.entries.row_of.Goals as goal

pub unravel_into-requires : goal.unravel_into-requires
unravel_into-requires c = ask_index c.requires.sound_record c.requires.i_in_bounds refl (dense_number c.kind_at.ensures c.in-Dense.is) (search rules)

pub returns-in-Dense : goal.returns-in-Dense
returns-in-Dense c = is_index c.requires.sound_record c.requires.i_in_bounds refl (dense_number c.kind_at.ensures c.in-Dense.is) _ (search rules) c.unravel_into.ensures

pub whole-requires : goal.whole-requires
whole-requires c = number_fits c.requires.sound_record c.requires.i_in_bounds refl (diagonal_number c.kind_at.ensures c.in-Diagonal.is)

pub returns-in-Diagonal : goal.returns-in-Diagonal
returns-in-Diagonal c = diagonal_case c.requires.sound_record c.requires.i_in_bounds refl (diagonal_number c.kind_at.ensures c.in-Diagonal.is) (held_pos _ (number_fits c.requires.sound_record c.requires.i_in_bounds refl (diagonal_number c.kind_at.ensures c.in-Diagonal.is)) c.whole.ensures)

pub overflow_mul-i : goal.overflow_mul-i
overflow_mul-i c = omega (arith, row_ended c.requires.sound_record c.requires.i_in_bounds refl (sparse_not_dense c.kind_at.ensures c.in-Sparse.is) (sparse_not_diagonal c.kind_at.ensures c.in-Sparse.is))

pub overflow_add-head : goal.overflow_add-head
overflow_add-head c = omega (arith, row_ended c.requires.sound_record c.requires.i_in_bounds refl (sparse_not_dense c.kind_at.ensures c.in-Sparse.is) (sparse_not_diagonal c.kind_at.ensures c.in-Sparse.is))

pub read_row-requires : goal.read_row-requires
read_row-requires c = ask_read c.requires.sound_record c.requires.i_in_bounds refl (sparse_not_dense c.kind_at.ensures c.in-Sparse.is) (sparse_not_diagonal c.kind_at.ensures c.in-Sparse.is)

pub returns-in-Sparse : goal.returns-in-Sparse
returns-in-Sparse c = is_row c.requires.sound_record c.requires.i_in_bounds refl (sparse_not_dense c.kind_at.ensures c.in-Sparse.is) (sparse_not_diagonal c.kind_at.ensures c.in-Sparse.is) _ c.read_row.ensures
