-- `pass_along`: both tests.
use borrow.Author.Rules.{rules}
use Rattle.blocks.proofs.Ways.{both_laws}
use Rattle.blocks.proofs.deciding.pass_along.Goals as goal

pub returns-then-not-all_pass : goal.returns-then-not-all_pass
returns-then-not-all_pass c = search (rules, both_laws)

pub returns : goal.returns
returns c = search (rules, both_laws)
