-- `added`: by how measures are taken together.
use borrow.Author.Rules.{rules}
use Rattle.blocks.proofs.Measures.{added_laws}
use Rattle.blocks.proofs.measuring.added.Goals as goal

pub returns-in-Sum : goal.returns-in-Sum
returns-in-Sum c = search (rules, added_laws)

pub returns-in-Largest : goal.returns-in-Largest
returns-in-Largest c = search (rules, added_laws)
