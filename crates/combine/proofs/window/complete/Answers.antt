-- `complete`: the head, and then the dependencies.
use borrow.Author.Rules.{rules}
use Rattle.combine.proofs.Completing.{laws}
use Rattle.combine.proofs.window.complete.Goals as goal

pub merge_deps-requires : goal.merge_deps-requires
merge_deps-requires c = search (rules, laws)

pub returns : goal.returns
returns c = search (rules, laws)
