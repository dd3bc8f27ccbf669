-- `write_lines`: each line is written right behind the one before it.
use native.Mathlib.Omega.{arith}
use Rattle.record_text.proofs.Sections.{five_wrote}
use Rattle.record_text.proofs.write_lines.Goals as goal

pub returns : goal.returns
returns c = five_wrote c.args.s.now c.requires.in_turn c.requires.room (omega arith) (omega arith) (omega arith) (omega arith)
    c.write_part-at.ensures c.write_part-at-2.ensures c.write_part-at-3.ensures c.write_part-at-4.ensures c.write_part.ensures
