-- `as_shape`: number by number.
use Rattle.fold.proofs.Agreed.{shape_is}
use borrow.Author.Rules.{rules}
use Rattle.fold.proofs.agreeing.as_shape.Goals as goal

pub whole-requires : goal.whole-requires
whole-requires c = c.requires 0

pub whole-requires-2 : goal.whole-requires-2
whole-requires-2 c = c.requires 1

pub whole-requires-3 : goal.whole-requires-3
whole-requires-3 c = c.requires 2

pub whole-requires-4 : goal.whole-requires-4
whole-requires-4 c = c.requires 3

pub returns : goal.returns
returns c = search (rules, shape_is)
