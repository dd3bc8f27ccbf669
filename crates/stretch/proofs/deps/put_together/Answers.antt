-- `put_together`: the cleared entry plus every index of the values.
use Rattle.stretch.proofs.Together.{ask_product, ask_moves, all_together}
use borrow.Author.Rules.{rules}
use Rattle.stretch.proofs.deps.put_together.Goals as goal

pub product-size-requires : goal.product-size-requires
product-size-requires c = ask_product c.requires c.spread_extents-extents.result (search rules) c.spread_extents-extents.ensures

pub put_moved-requires : goal.put_moved-requires
put_moved-requires c = ask_moves c.requires c.spread_extents-extents.result (search rules) c.spread_extents-extents.ensures c.cleared-row.result (search rules) c.cleared-row.ensures c.product-size.ensures

pub returns : goal.returns
returns c = all_together c.requires c.spread_extents-extents.result (search rules) c.spread_extents-extents.ensures c.cleared-row.result (search rules) c.cleared-row.ensures c.product-size.ensures c.put_moved.ensures
