-- `has_deps`: none, kept as they are, or by the indices of the axes that are removed.
use native.Mathlib.Omega.{arith}
use Rattle.intersecting.proofs.Meeting.{deps_none, deps_kept_lem, above, ask_last, deps_removed}
use Rattle.intersecting.proofs.filter.has_deps.Goals as goal

pub returns-then-get-eq0 : goal.returns-then-get-eq0
returns-then-get-eq0 c = deps_none c.args.d c.requires c.get.ensures.0 c.get-2.ensures.0 c.if-get-eq0.true

pub overflow_sub-w : goal.overflow_sub-w
overflow_sub-w c = omega (arith, above c.args.d c.requires c.get.ensures.0 c.get-2.ensures.0 c.if-get-eq0.false c.removes_axes.ensures c.if-removes_axes.true c.get-rank.ensures.0 c.get-then-removes_axes.ensures.0)

pub overflow_sub-w-then-removes_axes : goal.overflow_sub-w-then-removes_axes
overflow_sub-w-then-removes_axes c = omega (arith, above c.args.d c.requires c.get.ensures.0 c.get-2.ensures.0 c.if-get-eq0.false c.removes_axes.ensures c.if-removes_axes.true c.get-rank.ensures.0 c.get-then-removes_axes.ensures.0)

pub product-requires : goal.product-requires
product-requires c = ask_last c.args.d c.requires c.get.ensures.0 c.get-2.ensures.0 c.if-get-eq0.false c.removes_axes.ensures c.if-removes_axes.true c.get-rank.ensures.0 c.get-then-removes_axes.ensures.0

pub returns-then-removes_axes : goal.returns-then-removes_axes
returns-then-removes_axes c = deps_removed c.args.d c.requires c.get.ensures.0 c.get-2.ensures.0 c.if-get-eq0.false c.removes_axes.ensures c.if-removes_axes.true c.get-rank.ensures.0 c.get-then-removes_axes.ensures.0 c.product.ensures

pub returns : goal.returns
returns c = deps_kept_lem c.args.d c.requires c.get.ensures.0 c.get-2.ensures.0 c.if-get-eq0.false c.removes_axes.ensures c.if-removes_axes.false
