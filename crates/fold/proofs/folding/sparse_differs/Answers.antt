-- `sparse_differs`: a right layout that is not dense is compared.
use Rattle.rules.proofs.Same.{true_not_false}
use Rattle.fold.proofs.Comparing.{divides_told}
use Rattle.fold.proofs.folding.sparse_differs.Goals as goal
use Rattle.fold.proofs.folding.sparse_differs.Goals.{in-Dense, in_default-matches}

pub returns-else-matches : goal.returns-else-matches
returns-else-matches c = elim c.match-matches.branch [
  | in-Dense w ↦ absurd (true_not_false w.matches-is c.if-matches.false)
  | in_default-matches w ↦ divides_told _ c.kind_at.ensures c.requires c.in-Sparse.is c.kind_at-in-Sparse.ensures w.in_default-matches.not-Dense c.eq_nonzeros.ensures
]
