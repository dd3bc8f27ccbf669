-- `list_block`: entries that stand as they are listed are moved in one walk and put in order, others are made one by one.
use Rattle.entries.proofs.Placing.{made_listed, walk_over, ask_sort, walk_sorted}
use Rattle.entries.proofs.merging.list_block.Goals as goal

pub returns-in_default : goal.returns-in_default
returns-in_default c = made_listed c.requires c.list_made.ensures

pub returns-then-not-move_entries : goal.returns-then-not-move_entries
returns-then-not-move_entries c = walk_over c.requires c.standing_of.ensures c.in-Some.is c.axes_in.ensures c.move_entries.ensures c.if-not-move_entries.true

pub sort_into-requires : goal.sort_into-requires
sort_into-requires c = ask_sort c.requires c.standing_of.ensures c.in-Some.is c.axes_in.ensures c.move_entries.ensures c.if-not-move_entries.false

pub returns : goal.returns
returns c = walk_sorted c.requires c.standing_of.ensures c.in-Some.is c.axes_in.ensures c.move_entries.ensures c.if-not-move_entries.false c.sort_into.ensures
