-- `lists_row`: with a D between, there are rows and the removed axes have indices.
use native.Mathlib.Omega.{arith}
use borrow.Author.Rules.{rules}
use Rattle.parts.proofs.Holds.{dense_most}
use Rattle.combine.proofs.Tests.{lists_laws, removed_axes}
use Rattle.combine.proofs.window.lists_row.Goals as goal

pub returns-then-d-eq0 : goal.returns-then-d-eq0
returns-then-d-eq0 c = search (rules, lists_laws)

pub returns-then-dense-d : goal.returns-then-dense-d
returns-then-dense-d c = search (rules, lists_laws)

pub returns-then-get-eq0 : goal.returns-then-get-eq0
returns-then-get-eq0 c = search (rules, lists_laws)

pub overflow_sub-rank : goal.overflow_sub-rank
overflow_sub-rank c = omega (arith, dense_most c.requires)

pub product-requires : goal.product-requires
product-requires c = removed_axes c.args.d c.requires c.get-dense.ensures.0 c.if-d-eq0.false c.if-dense-d.false c.get.ensures.0 c.get-rank.ensures.0

pub returns : goal.returns
returns c = search (rules, lists_laws)
