-- `fill`: rows, states and inputs, each by its own law.
use Rattle.stretch.proofs.Filling.{ask_rows, rows_over, ask_states, states_over, ask_inputs, tables_made}
use borrow.Author.Rules.{rules}
use Rattle.stretch.proofs.fill.Goals as goal

pub stretch_rows-requires : goal.stretch_rows-requires
stretch_rows-requires c = ask_rows c.requires c.spread_extents-extents.result (search rules) c.spread_extents-extents.ensures

pub returns-then-not-stretch_rows : goal.returns-then-not-stretch_rows
returns-then-not-stretch_rows c = rows_over c.requires c.spread_extents-extents.result (search rules) c.spread_extents-extents.ensures c.stretch_rows.ensures _ c.if-not-stretch_rows.true

pub stretch_deps-requires : goal.stretch_deps-requires
stretch_deps-requires c = ask_states c.requires c.spread_extents-extents.result (search rules) c.spread_extents-extents.ensures c.stretch_rows.ensures c.if-not-stretch_rows.false

pub returns-then-not-stretch_deps : goal.returns-then-not-stretch_deps
returns-then-not-stretch_deps c = states_over c.requires c.spread_extents-extents.result (search rules) c.spread_extents-extents.ensures c.stretch_rows.ensures c.if-not-stretch_rows.false _ c.stretch_deps.ensures c.if-not-stretch_deps.true

pub stretch_deps-requires-2 : goal.stretch_deps-requires-2
stretch_deps-requires-2 c = ask_inputs c.requires c.spread_extents-extents.result (search rules) c.spread_extents-extents.ensures c.stretch_rows.ensures c.if-not-stretch_rows.false _ c.stretch_deps.ensures c.if-not-stretch_deps.false

pub returns : goal.returns
returns c = tables_made c.requires c.spread_extents-extents.result (search rules) c.spread_extents-extents.ensures c.stretch_rows.ensures c.if-not-stretch_rows.false _ c.stretch_deps.ensures c.if-not-stretch_deps.false c.stretch_deps-2.ensures
