-- `move_entries`: at each turn the first i rows are small, and are the first i rows of the table.
use Rattle.entries.proofs.Placing.{all_start, since_counted, ask_place, all_stop, all_turn, all_done}
use Rattle.entries.proofs.standing.move_entries.Goals as goal

pub loop-i-init : goal.loop-i-init
loop-i-init c = all_start c.requires c.store.ensures

pub move_entry-requires : goal.move_entry-requires
move_entry-requires c = ask_place c.loop-i.invariant c.loop-i-test.true

pub returns-then-not-move_entry : goal.returns-then-not-move_entry
returns-then-not-move_entry c = since_counted c.requires c.store.ensures (all_stop c.loop-i.invariant c.loop-i-test.true c.move_entry.ensures c.if-not-move_entry.true)

pub loop-i-preserved : goal.loop-i-preserved
loop-i-preserved c = all_turn c.loop-i.invariant c.loop-i-test.true c.move_entry.ensures c.if-not-move_entry.false

pub returns : goal.returns
returns c = since_counted c.requires c.store.ensures (all_done c.loop-i.invariant c.loop-i-test.false)
