-- `moves_of`: at each turn the entries from k on are walked.
use Rattle.reshape.proofs.Moves.{Walked}
use Rattle.reshape.proofs.permute.moves_of.Given as goal

abbrev pub invariant-loop-k : goal.invariant-loop-k
invariant-loop-k l = Walked l.entries l.places l.largest l.k
