-- `first_d`: the records that are read are sound.
use borrow.Author.Rules.{rules}
use Rattle.blocks.proofs.Asks.{first_laws}
use Rattle.blocks.proofs.asking.first_d.Goals as goal

pub kind-requires : goal.kind-requires
kind-requires c = search (rules, first_laws)

pub dense_axes-requires : goal.dense_axes-requires
dense_axes-requires c = search (rules, first_laws)
