-- `fold_all`: all but the first k layouts are folded.
use lib.ListN.{length}
use Rattle.fold.proofs.Steps.{FoldedTo}
use Rattle.fold.proofs.folding.fold_all.Given as goal

abbrev pub invariant-loop-k : goal.invariant-loop-k
invariant-loop-k l = FoldedTo l.mode l.shape l.rule l.places.count l.places.at l.layouts (length l.initial.window) l.first l.k l.window
