-- `exchange_all`: each turn is one pair of the list, made or not.
use Rattle.pile.proofs.Going.{Going}
use Rattle.pile.proofs.exchange_all.Given as goal

abbrev pub invariant-loop-first : goal.invariant-loop-first
invariant-loop-first l = Going l.initial.pile l.pairs l.initial.work l.places l.made l.first-index l.pile l.work
