-- `read_index`: after the last component the index is read.
use borrow.Author.Rules.{rules}
use Rattle.lookups.proofs.Reading.{reading}
use Rattle.lookups.proofs.lookup.read_index.Goals as goal

pub returns : goal.returns
returns c = search (rules, reading)
