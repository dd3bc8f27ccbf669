-- `bends`: by the kind.
use borrow.Author.Tests.{ne_eqb}
use Rattle.rules.proofs.KindRead.{diagonal_number, not_diagonal}
use Rattle.stretch.proofs.bends.Goals as goal

pub returns-in-Diagonal : goal.returns-in-Diagonal
returns-in-Diagonal c = rw (diagonal_number c.kind_at.ensures c.in-Diagonal.is, c.alike.ensures)

pub returns-in_default : goal.returns-in_default
returns-in_default c = rw (ne_eqb _ 1 (not_diagonal c.kind_at.ensures c.in_default.not-Diagonal))
