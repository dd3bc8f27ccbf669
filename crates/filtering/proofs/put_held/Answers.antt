-- `put_held`: the entry, or nothing.
use Rattle.filtering.proofs.Keeping.{ask_held, put_taken, none_taken}
use Rattle.filtering.proofs.put_held.Goals as goal

pub is_held-requires : goal.is_held-requires
is_held-requires c = ask_held c.requires

pub returns-then-is_held : goal.returns-then-is_held
returns-then-is_held c = put_taken c.requires c.is_held.ensures c.if-is_held.true c.put_own.ensures

pub returns : goal.returns
returns c = none_taken c.requires c.is_held.ensures c.if-is_held.false
