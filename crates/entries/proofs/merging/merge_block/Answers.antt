-- `merge_block`: a list that is left out gives nothing; another one is listed in the spare part and merged.
use Rattle.entries.proofs.Spare.{list_room}
use Rattle.entries.proofs.Blocks.{record_inside, never_broken, ask_table, block_left, block_over, block_asks, block_merged}
use borrow.Author.Rules.{rules}
use Rattle.entries.proofs.merging.merge_block.Goals as goal

pub returns-then-left_out : goal.returns-then-left_out
returns-then-left_out c = block_left c.requires.block_asked c.requires.target_ready c.left_out.ensures c.if-left_out.true

pub slice_bounds-walk_record-count : goal.slice_bounds-walk_record-count
slice_bounds-walk_record-count c = record_inside c.requires.block_asked

pub slice_bounds-walk_record-start : goal.slice_bounds-walk_record-start
slice_bounds-walk_record-start c = let h = record_inside c.requires.block_asked in
    search rules

pub returns-in_default : goal.returns-in_default
returns-in_default c = absurd (never_broken c.requires.block_asked c.walk_record.ensures c.in_default.is)

pub slice_bounds-list_block-count : goal.slice_bounds-list_block-count
slice_bounds-list_block-count c = record_inside c.requires.block_asked

pub slice_bounds-list_block-start : goal.slice_bounds-list_block-start
slice_bounds-list_block-start c = let h = record_inside c.requires.block_asked in
    search rules

pub list_block-requires : goal.list_block-requires
list_block-requires c = ask_table c.requires.block_asked c.walk_record.ensures c.in-Some.is (list_room c.requires.target_ready)

pub returns-then-not-list_block : goal.returns-then-not-list_block
returns-then-not-list_block c = block_over c.requires.block_asked c.requires.target_ready c.left_out.ensures c.if-left_out.false c.list_block.ensures c.if-not-list_block.true

pub merge_spare-requires : goal.merge_spare-requires
merge_spare-requires c = let told = block_asks c.requires.block_asked c.requires.target_ready c.left_out.ensures c.if-left_out.false c.list_block.ensures c.if-not-list_block.false in record { target_ready = told.0; ready = told.1 }

pub returns : goal.returns
returns c = block_merged c.requires.block_asked c.requires.target_ready c.left_out.ensures c.if-left_out.false c.list_block.ensures c.if-not-list_block.false c.merge_spare.ensures
