-- `bare`: three numbers are stored.
use native.Mathlib.Omega.{arith}
use Rattle.fold.proofs.Ended.{dense_low, bared}
use Rattle.fold.proofs.ending.bare.Goals as goal

pub store-requires-2 : goal.store-requires-2
store-requires-2 c = (omega (arith, c.part-1.given, c.requires.holds.inside), dense_low c.requires)

pub returns : goal.returns
returns c = bared c.requires c.store.ensures c.store-2.ensures c.store-3.ensures
