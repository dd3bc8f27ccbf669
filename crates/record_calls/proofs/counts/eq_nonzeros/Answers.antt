-- `eq_nonzeros`: two sound records are compared, and the call is refused for any others.
use mathlib.Core.Path.{ap}
use Rattle.rules.specs.CountsAndForms.{eq_nonzeros, eq_nonzeros_call}
use Rattle.rules.specs.Refusals.{given}
use Rattle.rules.proofs.HandedOn.{handed_on}
use Rattle.judging.proofs.SoundRecords.{two_refused, two_given}
use Rattle.record_calls.proofs.counts.eq_nonzeros.Goals as goal

pub returns-in_err-x : goal.returns-in_err-x
unfolding eq_nonzeros_call
returns-in_err-x c =
    rw (handed_on c.from_residual.result c.from_residual.ensures.1)
    (two_refused _ _ c.judge_pair.ensures eq_nonzeros c.in_err-x.was)

pub eq_nonzeros-requires : goal.eq_nonzeros-requires
eq_nonzeros-requires c = record { sound_record = c.in_ok-x.ensures.first; sound_record_2 = c.in_ok-x.ensures.second }

pub returns : goal.returns
unfolding eq_nonzeros_call
returns c = two_given eq_nonzeros c.in_ok-x.ensures (ap given c.eq_nonzeros.ensures)
