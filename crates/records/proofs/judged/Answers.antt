-- `judged`: what the walk tells, and then what is found by the head that was read.
use borrow.Author.Rules.{rules}
use Rattle.records.proofs.SoundRecords.{findings}
use Rattle.records.proofs.judged.Goals as goal

pub returns-in_err-head : goal.returns-in_err-head
returns-in_err-head c = rw c.from_residual.ensures (search (rules, findings, c.in_err-head.was))

pub sound_by-requires : goal.sound_by-requires
sound_by-requires c = search (rules, findings, c.in_ok-head.was)

pub returns-in_err-increase : goal.returns-in_err-increase
returns-in_err-increase c =
    rw c.from_residual-in_err-increase.ensures (search (rules, findings, c.in_ok-head.was, c.in_err-increase.was))

pub returns : goal.returns
returns c = search (rules, findings, c.in_ok-head.was, c.in_ok-increase.was)
