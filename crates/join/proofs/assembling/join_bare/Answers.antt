-- `join_bare`: the product, the head, and the dependencies.
use Rattle.join.proofs.Ways.{bare_over, ask_bare, bare_said}
use Rattle.join.proofs.assembling.join_bare.Goals as goal

pub returns-then-not-within_product : goal.returns-then-not-within_product
returns-then-not-within_product c = bare_over c.args.extents c.requires c.within_product.ensures c.if-not-within_product.true _

pub complete-requires : goal.complete-requires
complete-requires c = ask_bare c.args.extents c.requires c.within_product.ensures c.if-not-within_product.false c.write_frame.ensures

pub returns : goal.returns
returns c = bare_said c.args.extents c.requires c.write_frame.ensures c.complete.ensures
