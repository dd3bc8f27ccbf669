-- `sum_front`: one of three arms, by D and then by the kind.
use mathlib.Core.Path.{refl}
use Rattle.rules.proofs.KindRead.{diagonal_number, not_diagonal}
use Rattle.rules.proofs.Same.{true_not_false}
use Rattle.reshape.proofs.Contracting.{is_diagonal_one, is_sparse_one}
use Rattle.reshape.proofs.contract.sum_front.Goals as goal
use Rattle.reshape.proofs.contract.sum_front.Goals.{in-Diagonal, in_default}

pub sum_diagonal-requires : goal.sum_diagonal-requires
sum_diagonal-requires c = record {
  sum_asked = c.requires;
  no_dense_axis = is_diagonal_one c.requires c.if-head.false refl (elim c.match-matches.branch [
    | in-Diagonal w ↦ diagonal_number c.kind_at.ensures w.in-Diagonal.is
    | in_default w ↦ absurd (true_not_false c.if-matches.true w.matches-is)
  ]);
}

pub sum_rows-requires : goal.sum_rows-requires
sum_rows-requires c = record {
  sum_asked = c.requires;
  no_dense_axis = is_sparse_one c.requires c.if-head.false refl (elim c.match-matches.branch [
    | in-Diagonal w ↦ absurd (true_not_false w.matches-is c.if-matches.false)
    | in_default w ↦ not_diagonal c.kind_at.ensures w.in_default.not-Diagonal
  ]);
}
