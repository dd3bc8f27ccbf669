-- `unravel`: written as numbers of a slice, and read by value.
use borrow.Author.Rules.{rules}
use Rattle.shapes.proofs.Locating.{unravel_laws}
use Rattle.shapes.proofs.positions.unravel.Goals as goal

pub unravel_into-requires : goal.unravel_into-requires
unravel_into-requires c = search (rules, unravel_laws)

pub returns : goal.returns
returns c = search (rules, unravel_laws)
