-- `carry_left`: the head, the rows, the states and the inputs are moved one after the other.
use Rattle.fold.proofs.Carrying.{width_fits, ask_rows, ask_states, ask_inputs, layout_carried}
use Rattle.fold.proofs.folding.carry_left.Goals as goal

pub overflow_sub-w : goal.overflow_sub-w
overflow_sub-w c = width_fits c.requires c.get-rank.ensures.0 c.get.ensures.0

pub carry_table-requires : goal.carry_table-requires
carry_table-requires c = ask_rows c.requires c.get-rank.ensures.0 c.get.ensures.0 c.move_part.ensures

pub carry_table-requires-2 : goal.carry_table-requires-2
carry_table-requires-2 c = ask_states c.requires c.get-rank.ensures.0 c.get.ensures.0 c.move_part.ensures c.carry_table.ensures

pub carry_table-requires-3 : goal.carry_table-requires-3
carry_table-requires-3 c = ask_inputs c.requires c.get-rank.ensures.0 c.get.ensures.0 c.move_part.ensures c.carry_table.ensures c.carry_table-2.ensures

pub returns : goal.returns
returns c = layout_carried c.requires c.get-rank.ensures.0 c.get.ensures.0 c.move_part.ensures c.carry_table.ensures c.carry_table-2.ensures c.carry_table-3.ensures
