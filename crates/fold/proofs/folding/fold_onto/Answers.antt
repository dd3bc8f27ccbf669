-- `fold_onto`: the part that was lent came back, and the fold goes on.
use Rattle.fold.proofs.Steps.{window_ordered, onto_folded}
use Rattle.fold.proofs.folding.fold_onto.Goals as goal

pub fold_next-requires : goal.fold_next-requires
fold_next-requires c = window_ordered c.args.mode c.args.shape c.args.layouts.now c.args.at c.args.window.now c.requires.left_ready.room c.bring.ensures c.requires.left_ready c.window-1.given.0

pub returns : goal.returns
returns c = onto_folded c.args.mode c.args.shape c.args.layouts.now c.args.at c.args.window.now c.requires.left_ready.room c.bring.ensures c.requires.left_ready c.window-1.given.0 c.args.first c.args.rule c.fold_next.ensures
