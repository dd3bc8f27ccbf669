-- `join_of`: the way, and what belongs to it.
use borrow.Author.Rules.{rules}
use Rattle.blocks.proofs.Ways.{join_is}
use Rattle.blocks.proofs.deciding.join_of.Goals as goal

pub returns : goal.returns
returns c = search (rules, join_is)
