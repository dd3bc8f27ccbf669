-- `write_refusal`: the line of the number is written right behind the word.
use native.Mathlib.Omega.{arith}
use Rattle.record_text.proofs.Fronts.{front_is, front_wrote}
use Rattle.record_text.proofs.Refusals.{refused_line}
use Rattle.record_text.proofs.write_refusal.Goals as goal

pub returns : goal.returns
returns c = front_is (refused_line c.args.reason c.number_of.result c.number_of.ensures c.number_of.type_inv)
    (front_wrote c.write_bytes-at.ensures.1 c.write_line.ensures (omega arith))
