-- `over_record`: the rank by its sign, where it stands in the slice.
use borrow.Author.Rules.{rules}
use Rattle.records.proofs.Counts.{ranks}
use Rattle.records.proofs.over_record.Goals as goal

pub returns-then-s-le-RANK : goal.returns-then-s-le-RANK
returns-then-s-le-RANK c = search (rules, ranks)

pub returns-in-Some : goal.returns-in-Some
returns-in-Some c = search (rules, ranks)

pub returns-in-None : goal.returns-in-None
returns-in-None c = search (rules, ranks)
