-- `union_in`: each answer by the law of its way.
use Rattle.combine.proofs.Combining.{ask_dense_lem, ask_diagonal_lem}
use Rattle.combine.proofs.United.{shapes_stop, dense_made, diagonals_made}
use Rattle.combine.proofs.uniting.union_in.Goals as goal

pub returns-then-not-same_shapes : goal.returns-then-not-same_shapes
returns-then-not-same_shapes c = shapes_stop c.requires.window c.same_shapes.ensures c.if-not-same_shapes.true

pub complete_bare-requires : goal.complete_bare-requires
complete_bare-requires c = ask_dense_lem c.requires.window c.same_shapes.ensures c.if-not-same_shapes.false c.get-rank.ensures.0

pub complete_bare-requires-in-Diagonals : goal.complete_bare-requires-in-Diagonals
complete_bare-requires-in-Diagonals c = ask_diagonal_lem c.requires.window c.same_shapes.ensures c.if-not-same_shapes.false c.get-dense.ensures.0

pub returns-in-Dense : goal.returns-in-Dense
returns-in-Dense c = dense_made c.requires.window c.same_shapes.ensures c.if-not-same_shapes.false c.way_of.ensures c.in-Dense.is c.get-rank.ensures.0 c.complete_bare.ensures c.made.ensures

pub returns-in-Diagonals : goal.returns-in-Diagonals
returns-in-Diagonals c = diagonals_made c.requires.window c.same_shapes.ensures c.if-not-same_shapes.false c.way_of.ensures c.in-Diagonals.is c.get-dense.ensures.0 c.complete_bare-in-Diagonals.ensures c.made-in-Diagonals.ensures
