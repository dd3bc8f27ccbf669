-- `intersect_in`: each answer by the law of its way.
use Rattle.combine.proofs.Combining.{ask_diagonal_lem}
use Rattle.intersecting.proofs.Intersected.{rising, shapes_stop, ask_dense_lem, diagonals_made, ask_rows}
use Rattle.intersecting.proofs.intersect_in.Goals as goal

pub returns-then-not-same_shapes : goal.returns-then-not-same_shapes
returns-then-not-same_shapes c = shapes_stop c.requires c.same_shapes.ensures c.if-not-same_shapes.true

pub with_dense-requires : goal.with_dense-requires
with_dense-requires c = ask_dense_lem c.requires c.same_shapes.ensures c.if-not-same_shapes.false c.way_of.ensures c.in-Dense.is

pub complete_bare-requires : goal.complete_bare-requires
complete_bare-requires c = ask_diagonal_lem c.requires.window c.same_shapes.ensures c.if-not-same_shapes.false c.get-dense.ensures.0

pub intersect_rows-requires : goal.intersect_rows-requires
intersect_rows-requires c = record {
  rows_asked = ask_rows c.requires c.same_shapes.ensures c.if-not-same_shapes.false c.way_of.ensures c.in-Rows.is;
  rising = rising c.requires;
}

pub returns-in-Diagonals : goal.returns-in-Diagonals
returns-in-Diagonals c = diagonals_made c.requires c.same_shapes.ensures c.if-not-same_shapes.false c.way_of.ensures c.in-Diagonals.is c.get-dense.ensures.0 c.complete_bare.ensures c.made.ensures
