-- `sign_of`: a tested number is what its bits say.
use native.Mathlib.Omega.{arith}
use borrow.Author.Rules.{rules}
use Rattle.cells.proofs.Signed.{signed, natural_casts, natural_is}
use Rattle.cells.proofs.sign_of.Goals as goal

pub returns-then-x-lt0 : goal.returns-then-x-lt0
returns-then-x-lt0 c = search (rules, signed)

pub overflow_cast-result : goal.overflow_cast-result
overflow_cast-result c = natural_casts c.args.x c.ranges.x.sfits c.if-x-lt0.false

pub returns : goal.returns
returns c = record {
  is = search (rules, signed);
  small = omega (arith, natural_is c.args.x c.ranges.x.sfits c.if-x-lt0.false);
}
