-- `count_of`: by the list.
use Rattle.entries.proofs.Listing.{counting}
use borrow.Author.Rules.{rules}
use Rattle.entries.proofs.entries.count_of.Goals as goal

pub returns-in-Rows : goal.returns-in-Rows
returns-in-Rows c = search (rules, counting)

pub returns-in-States : goal.returns-in-States
returns-in-States c = search (rules, counting)

pub returns-in-Inputs : goal.returns-in-Inputs
returns-in-Inputs c = search (rules, counting)
