-- `few_entries`: each return says which count is too large, or that the last one decides.
use borrow.Author.Rules.{rules}
use Rattle.records.proofs.Counts.{counts}
use Rattle.records.proofs.few_entries.Goals as goal

pub returns-then-h-gt-RANK_LIMIT : goal.returns-then-h-gt-RANK_LIMIT
returns-then-h-gt-RANK_LIMIT c = search (rules, counts)

pub returns-then-rows-gt-ENTRY_LIMIT : goal.returns-then-rows-gt-ENTRY_LIMIT
returns-then-rows-gt-ENTRY_LIMIT c = search (rules, counts)

pub returns-then-states-gt-ENTRY_LIMIT : goal.returns-then-states-gt-ENTRY_LIMIT
returns-then-states-gt-ENTRY_LIMIT c = search (rules, counts)

pub returns : goal.returns
returns c = search (rules, counts)
