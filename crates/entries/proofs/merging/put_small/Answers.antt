-- `put_small`: an entry that is small is put.
use Rattle.records.proofs.Naturals.{has_front}
use Rattle.entries.proofs.Putting.{too_large, small_put}
use borrow.Author.Rules.{rules}
use Rattle.entries.proofs.merging.put_small.Goals as goal

pub row_below-requires : goal.row_below-requires
row_below-requires c = search (rules, has_front)

pub returns-else-row_below : goal.returns-else-row_below
returns-else-row_below c = rw c.if-row_below.false (too_large c.requires c.row_below.ensures c.if-row_below.false)

pub returns-then-row_below : goal.returns-then-row_below
returns-then-row_below c = small_put c.requires c.row_below.ensures c.if-row_below.true c.put_row.ensures
