-- `less_by`: the difference, by the sign of d and by which is larger.
use native.Mathlib.Omega.{arith}
use borrow.Author.Rules.{rules}
use Rattle.cells.proofs.Signed.{signed, turned_casts, turned_is, natural_casts}
use Rattle.cells.proofs.less_by.Goals as goal

pub overflow_sub-below : goal.overflow_sub-below
overflow_sub-below c = search (rules, signed)

pub overflow_cast-result : goal.overflow_cast-result
overflow_cast-result c = turned_casts c.args.d c.ranges.d.sfits c.if-d-lt0.true

pub overflow_add-result-then-d-lt0 : goal.overflow_add-result-then-d-lt0
overflow_add-result-then-d-lt0 c = omega (arith, turned_is c.args.d c.ranges.d.sfits c.if-d-lt0.true)

pub returns-then-d-lt0 : goal.returns-then-d-lt0
returns-then-d-lt0 c = record {
  is = search (rules, signed);
  small = omega (arith, turned_is c.args.d c.ranges.d.sfits c.if-d-lt0.true);
}

pub overflow_cast-n : goal.overflow_cast-n
overflow_cast-n c = natural_casts c.args.d c.ranges.d.sfits c.if-d-lt0.false

pub returns-then-r-n : goal.returns-then-r-n
returns-then-r-n c = search (rules, signed)

pub returns : goal.returns
returns c = search (rules, signed)
