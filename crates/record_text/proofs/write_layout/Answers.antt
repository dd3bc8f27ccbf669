-- `write_layout`: the places of the sections are those of the walk.
use native.Mathlib.Omega.{arith}
use Rattle.record_text.proofs.Sections.{not_broken, in_turn_lem, lines_are}
use Rattle.record_text.proofs.Fronts.{front_is}
use Rattle.record_text.proofs.write_layout.Goals as goal

pub returns-in_default : goal.returns-in_default
returns-in_default c = absurd (not_broken c.args.s.now c.requires.0 c.walk_record.ensures c.in_default.is)

pub write_lines-requires : goal.write_lines-requires
write_lines-requires c = let turn = in_turn_lem c.args.s.now c.requires.0 c.walk_record.ensures c.in-Some.is in
    record { in_turn = turn.0; room = omega arith }

pub returns : goal.returns
returns c = front_is (lines_are c.args.s.now c.requires.0 c.walk_record.ensures c.in-Some.is) c.write_lines.ensures
