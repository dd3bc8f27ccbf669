-- `walk_record`: at each return the sections read so far say where the record breaks, or that it was walked.
use borrow.Author.Rules.{rules}
use Rattle.records.proofs.Walks.{laws}
use Rattle.records.proofs.walk_record.Goals as goal

pub returns-in_err-extents : goal.returns-in_err-extents
returns-in_err-extents c = rw c.from_residual.ensures (search (rules, laws))

pub returns-in_err-width : goal.returns-in_err-width
returns-in_err-width c = rw c.from_residual-in_err-width.ensures (search (rules, laws))

pub returns-in_err-rows : goal.returns-in_err-rows
returns-in_err-rows c = rw c.from_residual-in_err-rows.ensures (search (rules, laws))

pub returns-in_err-states : goal.returns-in_err-states
returns-in_err-states c = rw c.from_residual-in_err-states.ensures (search (rules, laws, c.in_ok-extents.was, c.in_ok-width.was, c.in_ok-rows.was, c.in_err-states.was))

pub returns-in_err-inputs : goal.returns-in_err-inputs
returns-in_err-inputs c = rw c.from_residual-in_err-inputs.ensures (search (rules, laws, c.in_ok-extents.was, c.in_ok-width.was, c.in_ok-rows.was, c.in_ok-states.was, c.in_err-inputs.was))

pub returns : goal.returns
returns c = search (rules, laws, c.in_ok-extents.was, c.in_ok-width.was, c.in_ok-rows.was, c.in_ok-states.was, c.in_ok-inputs.was)
