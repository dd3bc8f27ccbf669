-- `section_at`: each return says which case of the section it is.
use borrow.Author.Rules.{rules}
use Rattle.records.proofs.Sections.{laws}
use Rattle.records.proofs.section_at.Goals as goal

pub returns-then-s-at : goal.returns-then-s-at
returns-then-s-at c = search (rules, laws)

pub returns-in_err-count : goal.returns-in_err-count
returns-in_err-count c = rw c.from_residual.ensures (search (rules, laws, c.in_err-count.was))

pub overflow_mul-size : goal.overflow_mul-size
overflow_mul-size c = search (rules, laws, c.in_ok-count.was)

pub returns-then-s-first : goal.returns-then-s-first
returns-then-s-first c = search (rules, laws, c.in_ok-count.was)

pub returns : goal.returns
returns c = search (rules, laws, c.in_ok-count.was)
