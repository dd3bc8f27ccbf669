-- `write_head`: what was stored and copied is the head.
use borrow.Author.Rules.{rules}
use Rattle.moving.proofs.Heads.{head_made}
use Rattle.moving.proofs.write_head.Goals as goal

pub returns : goal.returns
returns c = search (rules, head_made)
