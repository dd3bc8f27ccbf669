-- `among_rows`: what the search answers.
use Rattle.lookups.proofs.Placing.{row_told}
use Rattle.lookups.proofs.lookup.among_rows.Goals as goal

pub returns : goal.returns
returns c = row_told _ _ c.requires.increasing _ _ c.search.ensures c.ok.ensures.value
