-- `is_row`: with dense axes none is; otherwise the rows are searched.
use Rattle.filtering.proofs.Held.{row_short, ask_search, row_found, row_missed}
use Rattle.filtering.proofs.is_row.Goals as goal

pub returns-then-get-gt0 : goal.returns-then-get-gt0
returns-then-get-gt0 c = row_short c.requires c.get.ensures.0 c.if-get-gt0.true

pub search-requires : goal.search-requires
search-requires c = let told = ask_search c.requires c.get.ensures.0 c.if-get-gt0.false c.get-n.ensures.0 c.get-rank.ensures.0 in record { has_rows = told.0; increasing = told.1.0; has_row = told.1.1 }

pub returns-in-Ok : goal.returns-in-Ok
returns-in-Ok c = row_found c.requires c.get.ensures.0 c.if-get-gt0.false c.get-n.ensures.0 c.get-rank.ensures.0 c.search.ensures c.in-Ok.is

pub returns-in-Err : goal.returns-in-Err
returns-in-Err c = row_missed c.requires c.get.ensures.0 c.if-get-gt0.false c.get-n.ensures.0 c.get-rank.ensures.0 c.search.ensures c.in-Err.is
