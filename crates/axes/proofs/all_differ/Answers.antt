-- `all_differ`: rows that increase are all different.
use borrow.Author.Rules.{rules}
use Rattle.tables.proofs.Different.{increasing_differ}
use Rattle.axes.proofs.all_differ.Goals as goal

pub returns-then-is_increasing : goal.returns-then-is_increasing
returns-then-is_increasing c = search (rules, increasing_differ)
