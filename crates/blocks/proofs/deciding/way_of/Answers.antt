-- `way_of`: one test after the other.
use borrow.Author.Rules.{rules}
use Rattle.blocks.proofs.Ways.{way_laws}
use Rattle.blocks.proofs.deciding.way_of.Goals as goal

pub all_pass-requires : goal.all_pass-requires
all_pass-requires c = search (rules, way_laws)

pub returns-then-not-all_pass : goal.returns-then-not-all_pass
returns-then-not-all_pass c = search (rules, way_laws)

pub pass_along-requires : goal.pass_along-requires
pass_along-requires c = search (rules, way_laws)

pub later_agree-requires : goal.later_agree-requires
later_agree-requires c = search (rules, way_laws)

pub returns-then-later_agree : goal.returns-then-later_agree
returns-then-later_agree c = search (rules, way_laws)

pub returns-then-pass_along : goal.returns-then-pass_along
returns-then-pass_along c = search (rules, way_laws)

pub way_other-requires : goal.way_other-requires
way_other-requires c = search (rules, way_laws)

pub returns : goal.returns
returns c = search (rules, way_laws)
