-- `merge_held`: the states, and then the inputs.
use Rattle.intersecting.proofs.MergedLists.{ask_states, states_stop, ask_inputs, deps_merged}
use Rattle.intersecting.proofs.filter.merge_held.Goals as goal

pub merge_list-requires : goal.merge_list-requires
merge_list-requires c = ask_states c.args.d c.requires

pub merge_list-requires-then-merge_list : goal.merge_list-requires-then-merge_list
merge_list-requires-then-merge_list c = ask_inputs c.args.d c.requires c.merge_list.ensures

pub returns-then-merge_list : goal.returns-then-merge_list
returns-then-merge_list c = deps_merged c.args.d c.requires c.merge_list.ensures c.if-merge_list.true c.merge_list-then-merge_list.ensures

pub returns-else-merge_list : goal.returns-else-merge_list
returns-else-merge_list c = rw c.if-merge_list.false (states_stop c.args.d c.requires c.merge_list.ensures c.if-merge_list.false)
