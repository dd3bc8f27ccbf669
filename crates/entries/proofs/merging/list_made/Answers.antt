-- `list_made`: at each turn the first i entries are small, and in the table.
use borrow.Author.Rules.{rules}
use Rattle.entries.proofs.Putting.{table_start, table_turn, table_stop, table_done}
use Rattle.entries.proofs.merging.list_made.Goals as goal

pub loop-i-init : goal.loop-i-init
loop-i-init c = table_start c.requires c.store.ensures c.count_of-count.ensures c.axes_in-n.ensures

pub returns-then-not-put_small : goal.returns-then-not-put_small
returns-then-not-put_small c = table_stop c.loop-i.invariant c.loop-i-test.true c.moved_entry-entry.result (search rules) c.moved_entry-entry.ensures c.put_small.ensures c.if-not-put_small.true c.requires c.store.ensures

pub loop-i-preserved : goal.loop-i-preserved
loop-i-preserved c = table_turn c.loop-i.invariant c.loop-i-test.true c.moved_entry-entry.result (search rules) c.moved_entry-entry.ensures c.put_small.ensures c.if-not-put_small.false

pub returns : goal.returns
returns c = table_done c.loop-i.invariant c.loop-i-test.false c.requires c.store.ensures
