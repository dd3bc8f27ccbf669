-- `bring_left`: the part that was lent came back.
use Rattle.fold.proofs.Steps.{left_brought}
use Rattle.fold.proofs.folding.bring_left.Goals as goal

pub returns : goal.returns
returns c = left_brought c.args.mode c.args.shape c.args.layouts.now c.args.at c.args.window.now c.requires.window_size_in_bounds c.bring.ensures c.window-1.given.0
