-- `judge_all`: all before this one may be stretched.
use Rattle.rules.proofs.HandedOn.{handed_on}
use borrow.Author.Rules.{rules}
use Rattle.fold.proofs.Bringing.{judged_laws}
use Rattle.fold.proofs.stretching.judge_all.Goals as goal

pub loop-i-init : goal.loop-i-init
loop-i-init c = search (rules, judged_laws)

pub judge-requires : goal.judge-requires
judge-requires c = search (rules, judged_laws)

pub returns-in_err-judge : goal.returns-in_err-judge
returns-in_err-judge c =
    rw (handed_on c.from_residual.result c.from_residual.ensures.1)
    (search (rules, judged_laws, c.in_err-judge.was))

pub loop-i-preserved : goal.loop-i-preserved
loop-i-preserved c = search (rules, judged_laws, c.in_ok-judge.was)

pub returns : goal.returns
returns c = search (rules, judged_laws)
