-- `carry_table`: the count and the rows are moved as one block.
use Rattle.fold.proofs.Carrying.{table_carried}
use Rattle.fold.proofs.folding.carry_table.Goals as goal

pub returns : goal.returns
returns c = table_carried c.requires c.get.ensures.0 c.move_part.ensures
