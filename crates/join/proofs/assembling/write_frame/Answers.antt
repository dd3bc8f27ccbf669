-- `write_frame`: the head, and a count of 0.
use Rattle.join.proofs.Frames.{frame_made}
use borrow.Author.Rules.{rules}
use Rattle.join.proofs.assembling.write_frame.Goals as goal

pub returns : goal.returns
returns c = frame_made c.args.window.now c.requires c.args.extents (search rules) (search rules) c.write_head.ensures c.store.ensures
