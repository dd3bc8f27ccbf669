-- `write_head`: what was copied and stored is the head.
use native.Mathlib.Omega.{arith}
use borrow.Author.Rules.{rules}
use Rattle.combine.proofs.Heads.{laws, dense_small}
use Rattle.combine.proofs.window.write_head.Goals as goal

pub store-requires-2 : goal.store-requires-2
store-requires-2 c = (search rules, omega (arith, dense_small c.requires))

pub returns : goal.returns
returns c = search (rules, laws)
