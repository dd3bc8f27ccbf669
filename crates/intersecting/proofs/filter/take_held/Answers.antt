-- `take_held`: lowered, and then filtered.
use Rattle.intersecting.proofs.MergedLists.{ask_lower, take_stop, ask_keep, taken}
use Rattle.intersecting.proofs.filter.take_held.Goals as goal

pub lower_deps_into-requires : goal.lower_deps_into-requires
lower_deps_into-requires c = ask_lower c.args.d c.requires

pub keep_held-requires : goal.keep_held-requires
keep_held-requires c = ask_keep c.args.d c.requires c.lower_deps_into.ensures c.if-lower_deps_into.true

pub returns-then-lower_deps_into : goal.returns-then-lower_deps_into
returns-then-lower_deps_into c = taken c.args.d c.requires c.lower_deps_into.ensures c.if-lower_deps_into.true c.keep_held.ensures

pub returns : goal.returns
returns c = take_stop c.args.d c.requires c.lower_deps_into.ensures c.if-lower_deps_into.false
