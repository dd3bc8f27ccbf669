-- `moved_entry`: the entry, and the sum.
use Rattle.entries.proofs.Sizes.{ask_move, entry_moved}
use borrow.Author.Rules.{rules}
use Rattle.entries.proofs.entries.moved_entry.Goals as goal

pub moved-requires : goal.moved-requires
moved-requires c = ask_move c.requires.list_asked _ c.requires.start_low c.entry_of-entry.result (search rules) c.entry_of-entry.ensures c.axes_in.ensures

pub returns : goal.returns
returns c = entry_moved c.requires.list_asked _ c.requires.start_low c.entry_of-entry.result (search rules) c.entry_of-entry.ensures c.axes_in.ensures c.moved.ensures (search rules)
