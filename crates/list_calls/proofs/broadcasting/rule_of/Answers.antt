-- `rule_of`: by the byte.
use borrow.Author.Tests.{ne_eqb}
use Rattle.rules.specs.Broadcast.{rule_of}
use Rattle.list_calls.proofs.broadcasting.rule_of.Goals as goal

pub returns-in-47 : goal.returns-in-47
unfolding rule_of
returns-in-47 c = rw c.in-47.is

pub returns-in-42 : goal.returns-in-42
unfolding rule_of
returns-in-42 c = rw c.in-42.is

pub returns-in-0-to-41 : goal.returns-in-0-to-41
unfolding rule_of
returns-in-0-to-41 c = rw (ne_eqb _ 47 c.in-0-to-41.in-0-to-41-own.rest.0.1, ne_eqb _ 42 c.in-0-to-41.in-0-to-41-own.rest.1)
