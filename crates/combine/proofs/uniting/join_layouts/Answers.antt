-- `join_layouts`: the rows of both, completed.
use Rattle.combine.proofs.Joining.{ask_complete, rows_united}
use Rattle.combine.proofs.uniting.join_layouts.Goals as goal

pub complete-requires : goal.complete-requires
complete-requires c = ask_complete c.requires.both_asked c.join_rows.ensures c.if-join_rows.true

pub returns-then-join_rows : goal.returns-then-join_rows
returns-then-join_rows c = rows_united c.requires.both_asked c.join_rows.ensures c.if-join_rows.true c.complete.ensures
