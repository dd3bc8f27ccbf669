-- `complete`: the layout, or 13.
use Rattle.join.proofs.Frames.{is_made, too_large}
use Rattle.join.proofs.assembling.complete.Goals as goal

pub returns-then-add_deps : goal.returns-then-add_deps
returns-then-add_deps c = is_made c.requires c.add_deps.ensures c.if-add_deps.true

pub returns : goal.returns
returns c = too_large c.requires c.add_deps.ensures c.if-add_deps.false
