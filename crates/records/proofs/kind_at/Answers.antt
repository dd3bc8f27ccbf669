-- `kind_at`: by the number that was read.
use native.Mathlib.Omega.{arith}
use borrow.Author.Tests.{ne_eqb}
use Rattle.rules.specs.Layout.{kind_of}
use Rattle.records.proofs.kind_at.Goals as goal

pub returns-in-0 : goal.returns-in-0
unfolding kind_of
returns-in-0 c = rw (← c.get.ensures.0, c.in-0.is)

pub returns-in-1 : goal.returns-in-1
unfolding kind_of
returns-in-1 c = rw (← c.get.ensures.0, c.in-1.is)

pub returns-in_default : goal.returns-in_default
unfolding kind_of
returns-in_default c = rw (← c.get.ensures.0, ne_eqb c.get.result 0 (λ e. omega arith), ne_eqb c.get.result 1 (λ e. omega arith))
