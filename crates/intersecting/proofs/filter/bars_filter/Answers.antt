-- `bars_filter`: not sparse, no dense axes, or by the dependencies.
use mathlib.Core.Path.{refl}
use Rattle.rules.proofs.KindRead.{sparse_number, not_sparse}
use Rattle.parts.proofs.Holds.{kind_most}
use Rattle.intersecting.proofs.Meeting.{meets_other, meets_flat, meets}
use Rattle.intersecting.proofs.filter.bars_filter.Goals as goal

pub returns-in_default : goal.returns-in_default
returns-in_default c = meets_other c.requires refl (not_sparse c.kind_at.ensures c.in_default.not-Sparse)

pub returns-then-get-eq0 : goal.returns-then-get-eq0
returns-then-get-eq0 c = meets_flat c.requires refl (sparse_number c.kind_at.ensures c.in-Sparse.is (kind_most c.requires.holds)) c.get.ensures.0 c.if-get-eq0.true

pub returns : goal.returns
returns c = meets c.requires refl (sparse_number c.kind_at.ensures c.in-Sparse.is (kind_most c.requires.holds)) c.get.ensures.0 c.if-get-eq0.false c.get-rank.ensures.0 c.either_has_deps.ensures
