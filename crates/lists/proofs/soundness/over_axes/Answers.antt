-- `over_axes`: where the shapes stand.
use Rattle.lists.proofs.Asking.{over_moved}
use Rattle.lists.proofs.soundness.over_axes.Goals as goal

pub returns : goal.returns
returns c = over_moved _ _ _ c.moved-shapes.ensures.is c.all_pass.ensures
