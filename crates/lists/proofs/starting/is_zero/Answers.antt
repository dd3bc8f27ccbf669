-- `is_zero`: the flag as it was read.
use borrow.Author.Rules.{rules}
use Rattle.lists.proofs.Starts.{flag_read}
use Rattle.lists.proofs.starting.is_zero.Goals as goal

pub returns : goal.returns
returns c = search (rules, flag_read)
