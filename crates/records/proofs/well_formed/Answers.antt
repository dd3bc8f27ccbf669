-- `well_formed`: each test decides where those before it hold.
use borrow.Author.Rules.{rules}
use Rattle.records.proofs.Layouts.{rooms}
use Rattle.records.proofs.Soundness.{forms}
use Rattle.records.proofs.well_formed.Goals as goal

pub returns-then-not-kind_fits : goal.returns-then-not-kind_fits
returns-then-not-kind_fits c = search (rules, forms)

pub axes_fit-requires : goal.axes_fit-requires
axes_fit-requires c = search (rules, rooms)

pub returns-then-not-axes_fit : goal.returns-then-not-axes_fit
returns-then-not-axes_fit c = search (rules, forms)

pub is_increasing-requires : goal.is_increasing-requires
is_increasing-requires c = search (rules, rooms)

pub returns-then-not-is_increasing : goal.returns-then-not-is_increasing
returns-then-not-is_increasing c = search (rules, forms)

pub is_increasing-requires-2 : goal.is_increasing-requires-2
is_increasing-requires-2 c = search (rules, rooms)

pub returns-then-not-is_increasing-2 : goal.returns-then-not-is_increasing-2
returns-then-not-is_increasing-2 c = search (rules, forms)

pub rows_fit-requires : goal.rows_fit-requires
rows_fit-requires c = search (rules, rooms, forms)

pub returns : goal.returns
returns c = search (rules, forms)
