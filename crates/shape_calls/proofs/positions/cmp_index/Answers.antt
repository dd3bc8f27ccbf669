-- `cmp_index`: by the first reason that holds.
use Rattle.rules.specs.Positions.{cmp_index_call}
use Rattle.rules.specs.Refusals.{number_of}
use Rattle.judging.proofs.Judged.{judged}
use Rattle.judging.proofs.Required.{index_rows, index_order}
use Rattle.shape_calls.proofs.positions.cmp_index.Goals as goal

pub returns-then-not-comparable : goal.returns-then-not-comparable
unfolding cmp_index_call number_of
returns-then-not-comparable c = search judged

pub cmp_rows-requires : goal.cmp_rows-requires
cmp_rows-requires c = let told = index_rows _ _ c.comparable.ensures c.if-not-comparable.false-raw in record { has_row = told.0; has_row_2 = told.1 }

pub returns : goal.returns
unfolding cmp_index_call number_of
returns c = let order = index_order c.args.a.now c.args.b.now c.comparable.ensures c.if-not-comparable.false-raw c.cmp_rows.ensures in
    search judged
