-- `merge_spare`: both tables are merged into a third, which moves back.
use Rattle.entries.proofs.Spare.{spare_over, ask_back, spare_merged}
use Rattle.entries.proofs.merging.merge_spare.Goals as goal

pub returns-then-not-merge_into : goal.returns-then-not-merge_into
returns-then-not-merge_into c = spare_over c.requires.target_ready c.requires.ready c.merge_into.ensures c.if-not-merge_into.true

pub move_part-requires : goal.move_part-requires
move_part-requires c = let told = ask_back c.requires.target_ready c.requires.ready c.merge_into.ensures c.if-not-merge_into.false c.get.ensures.0 in record { n_in_bounds = told.0; fact = told.1 }

pub returns : goal.returns
returns c = spare_merged c.requires.target_ready c.requires.ready c.merge_into.ensures c.if-not-merge_into.false c.get.ensures.0 c.move_part.ensures
