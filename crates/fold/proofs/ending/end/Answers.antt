-- `end`: by the kind, then by the count of rows.
use mathlib.Core.Path.{refl}
use Rattle.rules.proofs.KindRead.{sparse_number, not_sparse}
use Rattle.parts.proofs.Holds.{kind_most}
use Rattle.fold.proofs.Ended.{ask_product, stays_other, becomes_dense, ask_sparse_lem}
use Rattle.fold.proofs.ending.end.Goals as goal

pub returns-in_default : goal.returns-in_default
returns-in_default c = stays_other c.requires refl (not_sparse c.kind_at.ensures c.in_default.not-Sparse)

pub product-requires : goal.product-requires
product-requires c = ask_product c.requires c.get-rank.ensures.0

pub returns-then-get-product : goal.returns-then-get-product
returns-then-get-product c = becomes_dense c.requires refl (sparse_number c.kind_at.ensures c.in-Sparse.is (kind_most c.requires)) c.get-rank.ensures.0 c.get.ensures.0 c.product.ensures c.if-get-product.true c.bare.ensures

pub end_sparse-requires : goal.end_sparse-requires
end_sparse-requires c = ask_sparse_lem c.requires refl (sparse_number c.kind_at.ensures c.in-Sparse.is (kind_most c.requires)) c.get-rank.ensures.0 c.get.ensures.0 c.product.ensures c.if-get-product.false
