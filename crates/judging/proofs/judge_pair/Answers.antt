-- `judge_pair`: each test decides where those before it do not hold.
use Rattle.std.proofs.Common.{rules}
use Rattle.rules.proofs.HandedOn.{handed_on, was_some, was_none}
use Rattle.judging.proofs.SoundRecords.{two}
use Rattle.judging.proofs.judge_pair.Goals as goal

pub returns-then-over_record : goal.returns-then-over_record
returns-then-over_record c = search (rules, two)

pub returns-then-over_record-2 : goal.returns-then-over_record-2
returns-then-over_record-2 c = search (rules, two)

pub returns-in_err-first : goal.returns-in_err-first
returns-in_err-first c =
    let none = was_none _ _ c.ok_or.ensures.value c.in_err-first.was in
    rw (handed_on c.from_residual.result c.from_residual.ensures.1, none.1) (search (rules, two, none.0))

pub returns-in_err-second : goal.returns-in_err-second
returns-in_err-second c =
    let first = was_some _ _ c.ok_or.ensures.value c.in_ok-first.was in
    let none = was_none _ _ c.ok_or-2.ensures.value c.in_err-second.was in
    rw (handed_on c.from_residual-in_err-second.result c.from_residual-in_err-second.ensures.1, none.1) (search (rules, two, first, none.0))

pub returns : goal.returns
returns c =
    let first = was_some _ _ c.ok_or.ensures.value c.in_ok-first.was in
    let second = was_some _ _ c.ok_or-2.ensures.value c.in_ok-second.was in
    search (rules, two, first, second)
