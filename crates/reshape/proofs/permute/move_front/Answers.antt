-- `move_front`: one arm for each kind; a refusal is what the rule gives, whatever the entries are.
use mathlib.Core.Path.{refl}
use native.Mathlib.Omega.{arith}
use Rattle.rules.proofs.KindRead.{dense_number, diagonal_number, sparse_not_dense, sparse_not_diagonal}
use Rattle.moving.proofs.Deps.{ask_rows}
use Rattle.reshape.proofs.Permuting.{width_most, kind_told, sparse_told, dense_moved, diagonal_narrow, diagonal_unlike, diagonal_moved, sparse_bars, sparse_moved}
use Rattle.reshape.proofs.permute.move_front.Goals as goal

pub overflow_sub-dense : goal.overflow_sub-dense
overflow_sub-dense c = width_most c.requires

pub returns-in-Dense : goal.returns-in-Dense
returns-in-Dense c = λ entries p. dense_moved c.requires c.args.places p.size c.picked_row-extents.result c.picked_row-extents.ensures entries p (kind_told c.requires refl (dense_number c.kind_at.ensures c.in-Dense.is)) c.store.ensures c.write_head.ensures

pub returns-then-largest-dense : goal.returns-then-largest-dense
returns-then-largest-dense c = λ entries p. diagonal_narrow c.requires c.args.places p.size c.picked_row-extents.result c.picked_row-extents.ensures entries p (kind_told c.requires refl (diagonal_number c.kind_at.ensures c.in-Diagonal.is)) c.if-largest-dense.true

pub returns-then-not-alike : goal.returns-then-not-alike
returns-then-not-alike c = λ entries p. diagonal_unlike c.requires c.args.places p.size c.picked_row-extents.result c.picked_row-extents.ensures entries p (kind_told c.requires refl (diagonal_number c.kind_at.ensures c.in-Diagonal.is)) c.if-largest-dense.false c.alike.ensures c.if-not-alike.true-raw

pub returns-else-not-alike : goal.returns-else-not-alike
returns-else-not-alike c = λ entries p. diagonal_moved c.requires c.args.places p.size c.picked_row-extents.result c.picked_row-extents.ensures entries p (kind_told c.requires refl (diagonal_number c.kind_at.ensures c.in-Diagonal.is)) c.if-largest-dense.false c.alike.ensures c.if-not-alike.false-raw c.store-in-Diagonal.ensures c.write_head-in-Diagonal.ensures

pub returns-then-dense-gt0 : goal.returns-then-dense-gt0
returns-then-dense-gt0 c = λ entries p. sparse_bars c.requires c.args.places p.size c.picked_row-extents.result c.picked_row-extents.ensures entries p (sparse_told c.requires refl (sparse_not_dense c.kind_at.ensures c.in-Sparse.is) (sparse_not_diagonal c.kind_at.ensures c.in-Sparse.is)) c.if-dense-gt0.true

pub pick_as_they_come-requires : goal.pick_as_they_come-requires
pick_as_they_come-requires c = ask_rows c.requires.sound (omega (arith, c.requires.small)) (omega (arith, c.requires.small, c.requires.room))

pub returns-else-dense-gt0 : goal.returns-else-dense-gt0
returns-else-dense-gt0 c = λ entries p. sparse_moved c.requires c.args.places p.size c.picked_row-extents.result c.picked_row-extents.ensures entries p (sparse_told c.requires refl (sparse_not_dense c.kind_at.ensures c.in-Sparse.is) (sparse_not_diagonal c.kind_at.ensures c.in-Sparse.is)) c.if-dense-gt0.false c.pick_as_they_come.ensures c.write_head-in-Sparse.ensures
