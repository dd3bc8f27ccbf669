-- `entry_of`: by the list.
use Rattle.entries.proofs.Listing.{entering}
use borrow.Author.Rules.{rules}
use Rattle.entries.proofs.entries.entry_of.Goals as goal

pub dep_of-requires : goal.dep_of-requires
dep_of-requires c = search (rules, entering)

pub dep_of-requires-in-Inputs : goal.dep_of-requires-in-Inputs
dep_of-requires-in-Inputs c = search (rules, entering)

pub returns-in-States : goal.returns-in-States
returns-in-States c = search (rules, entering)

pub returns-in-Inputs : goal.returns-in-Inputs
returns-in-Inputs c = search (rules, entering)
