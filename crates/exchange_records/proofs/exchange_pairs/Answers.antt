-- `exchange_pairs`: each turn is one pair and its line.
use native.Mathlib.Omega.{arith}
use Rattle.exchange_records.proofs.Turning.{turning_next, turning_done}
use Rattle.exchange_records.proofs.exchange_pairs.Goals as goal

pub loop-k-preserved : goal.loop-k-preserved
loop-k-preserved c =
    turning_next c.loop-k.invariant (omega (arith, c.loop-k-test.true)) (omega arith) (omega arith) c.exchange-step.auto.pile c.exchange-step.auto.work c.exchange-step.ensures
    c.write_step-at.auto.out c.write_step-at.ensures (omega arith)

pub returns : goal.returns
returns c = turning_done c.loop-k.invariant (omega (arith, c.loop-k-test.false, c.requires.0))
