-- `move_axes`: the front, then the dependencies, make the permuted layout.
use Rattle.reshape.proofs.Permuting.{axes_moved}
use Rattle.reshape.proofs.permute.move_axes.Goals as goal

pub returns : goal.returns
returns c = axes_moved c.requires c.args.places _ c.move_front.result c.move_front.ensures c.in_ok-move_front.was c.pick_deps.ensures
