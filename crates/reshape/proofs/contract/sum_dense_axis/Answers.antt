-- `sum_dense_axis`: the rows are kept, and the head has one dense axis less.
use native.Mathlib.Omega.{arith}
use Rattle.reshape.proofs.Contracting.{ask_dense_axis, dense_axis_summed}
use Rattle.reshape.proofs.contract.sum_dense_axis.Goals as goal

pub write_head-requires : goal.write_head-requires
write_head-requires c = ask_dense_axis c.requires.sum_asked c.get-kind.ensures.0 c.keep_rows.ensures _ (omega arith)

pub returns : goal.returns
returns c = dense_axis_summed c.requires.sum_asked c.get-kind.ensures.0 c.keep_rows.ensures c.requires.width_lt_rank c.write_head.ensures
