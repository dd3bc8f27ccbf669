-- `rows_ordered`: the order of the rows that stand in the slice is that of the rows of the layout.
use borrow.Author.Rules.{rules}
use Rattle.records.proofs.SoundRecords.{orders}
use Rattle.records.proofs.rows_ordered.Goals as goal

pub is_increasing-requires : goal.is_increasing-requires
is_increasing-requires c = search (rules, orders)

pub returns : goal.returns
returns c = search (rules, orders)
