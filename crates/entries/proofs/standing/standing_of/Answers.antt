-- `standing_of`: by the list.
use Rattle.entries.proofs.Placing.{standing_laws}
use borrow.Author.Rules.{rules}
use Rattle.entries.proofs.standing.standing_of.Goals as goal

pub returns-in-Sparse : goal.returns-in-Sparse
returns-in-Sparse c = search (rules, standing_laws)

pub returns-in-States : goal.returns-in-States
returns-in-States c = search (rules, standing_laws)

pub returns-in-Inputs : goal.returns-in-Inputs
returns-in-Inputs c = search (rules, standing_laws)
