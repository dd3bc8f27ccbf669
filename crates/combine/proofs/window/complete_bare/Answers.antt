-- `complete_bare`: an empty table of rows, completed.
use borrow.Author.Rules.{rules}
use Rattle.combine.proofs.Completing.{laws}
use Rattle.combine.proofs.window.complete_bare.Goals as goal

pub complete-requires : goal.complete-requires
complete-requires c = search (rules, laws)

pub returns : goal.returns
returns c = search (rules, laws)
