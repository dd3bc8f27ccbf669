-- `read_index`: the components before k are written as they are read.
use Rattle.lookups.proofs.Reading.{Reading}
use Rattle.lookups.proofs.lookup.read_index.Given as goal

abbrev pub invariant-loop-k : goal.invariant-loop-k
invariant-loop-k l = Reading l.index l.shape l.k l.read
