-- `way_other`: one test after the other.
use borrow.Author.Rules.{rules}
use Rattle.blocks.proofs.Ways.{rows_laws, other_laws}
use Rattle.blocks.proofs.deciding.way_other.Goals as goal

pub returns-then-not-agree : goal.returns-then-not-agree
returns-then-not-agree c = search (rules, other_laws, rows_laws)

pub returns-then-pass_along : goal.returns-then-pass_along
returns-then-pass_along c = search (rules, other_laws, rows_laws)

pub returns-then-d-eq0 : goal.returns-then-d-eq0
returns-then-d-eq0 c = search (rules, other_laws, rows_laws)

pub returns-then-all_pass : goal.returns-then-all_pass
returns-then-all_pass c = search (rules, other_laws, rows_laws)

pub returns : goal.returns
returns c = search (rules, other_laws, rows_laws)
