-- `turn`: at each turn the components from k on were the last ones, and are 0.
use Rattle.stretch.proofs.Turning.{Turning}
use Rattle.stretch.proofs.every.turn.Given as goal

abbrev pub invariant-loop-k : goal.invariant-loop-k
invariant-loop-k l = Turning l.w l.extents l.k l.initial.index l.index
