-- `merge_blocks`: at each turn the entries of the first i blocks are the table.
use Rattle.entries.proofs.AllBlocks.{join_cleared, join_start, ask_block, join_turn, join_stop, join_done}
use Rattle.entries.proofs.merging.merge_blocks.Goals as goal

pub loop-i-init : goal.loop-i-init
loop-i-init c = join_start c.requires.all_asked c.args.window.now c.requires.w_bound c.store.ensures

pub merge_block-requires : goal.merge_block-requires
merge_block-requires c = let g = c.loop-i.invariant in record {
  block_asked = ask_block g c.loop-i-test.true;
  target_ready = g.target;
}

pub returns-then-not-merge_block : goal.returns-then-not-merge_block
returns-then-not-merge_block c = join_cleared c.requires.w_bound c.store.ensures (join_stop c.loop-i.invariant c.loop-i-test.true c.merge_block.ensures c.if-not-merge_block.true)

pub loop-i-preserved : goal.loop-i-preserved
loop-i-preserved c = join_turn c.loop-i.invariant c.loop-i-test.true c.merge_block.ensures c.if-not-merge_block.false

pub returns : goal.returns
returns c = join_cleared c.requires.w_bound c.store.ensures (join_done c.loop-i.invariant c.loop-i-test.false)
