-- `lower_deps_into`: axes are removed, or the entries are copied.
use native.Mathlib.Omega.{arith}
use Rattle.lowering.proofs.LoweredDeps.{above, ask_removed, removed_listed, ask_copy, copy_rising, copied_listed}
use Rattle.lowering.proofs.lower_deps_into.Goals as goal

pub overflow_sub-w : goal.overflow_sub-w
overflow_sub-w c = omega (arith, above c.requires c.removes_axes.ensures c.get-rank.ensures.0 c.if-removes_axes.true c.get.ensures.0)

pub overflow_sub-w-then-removes_axes : goal.overflow_sub-w-then-removes_axes
overflow_sub-w-then-removes_axes c = omega (arith, above c.requires c.removes_axes.ensures c.get-rank.ensures.0 c.if-removes_axes.true c.get.ensures.0)

pub list_rows-requires : goal.list_rows-requires
list_rows-requires c = ask_removed c.requires c.removes_axes.ensures c.get-rank.ensures.0 c.if-removes_axes.true c.get.ensures.0 c.store.ensures

pub returns-then-removes_axes : goal.returns-then-removes_axes
returns-then-removes_axes c = removed_listed c.requires c.removes_axes.ensures c.get-rank.ensures.0 c.if-removes_axes.true c.get.ensures.0 c.store.ensures c.list_rows.ensures

pub move_table-requires : goal.move_table-requires
move_table-requires c = record {
  sort_asked = ask_copy c.requires c.removes_axes.ensures c.get-rank.ensures.0 c.if-removes_axes.false;
  increasing = copy_rising c.requires c.removes_axes.ensures c.get-rank.ensures.0 c.if-removes_axes.false;
}

pub returns : goal.returns
returns c = copied_listed c.requires c.removes_axes.ensures c.get-rank.ensures.0 c.if-removes_axes.false c.move_table.ensures
