-- `load_pair`: both parts were lent and came back.
use Rattle.parts.proofs.Windows.{pair_loaded}
use Rattle.parts.proofs.load_pair.Goals as goal

pub returns : goal.returns
returns c = pair_loaded c.args.window.now c.requires.window_size_in_bounds c.load.ensures c.window-1.given.0 c.load-2.ensures c.window-2-1.given.0
