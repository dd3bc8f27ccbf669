-- `add_deps`: one list after the other.
use Rattle.join.proofs.Frames.{deps_made}
use Rattle.join.proofs.assembling.add_deps.Goals as goal

pub returns : goal.returns
returns c = deps_made c.requires c.merge_blocks.ensures c.if-not-merge_blocks.false c.merge_blocks-2.ensures
