-- `merge_blocks`: at each turn the entries of the first i blocks are the table.
use Rattle.entries.proofs.AllBlocks.{Joining}
use Rattle.entries.proofs.merging.merge_blocks.Given as goal

abbrev pub invariant-loop-i : goal.invariant-loop-i
invariant-loop-i l = Joining l.list l.rank l.w l.places.count l.places.at l.starts l.s l.at l.i l.initial.window l.window
