-- `are_pairs`: nothing, a count and so many numbers, or a negative count.
use Rattle.exchange_records.proofs.Judging.{pairs_none, pairs_negative, pairs_counted}
use Rattle.exchange_records.proofs.are_pairs.Goals as goal

pub returns-then-rest-eq0 : goal.returns-then-rest-eq0
returns-then-rest-eq0 c = pairs_none _ c.if-rest-eq0.true

pub returns-in-Some : goal.returns-in-Some
returns-in-Some c = pairs_counted _ c.if-rest-eq0.false c.sign_at.ensures.is c.in-Some.is

pub returns-in-None : goal.returns-in-None
returns-in-None c = pairs_negative _ c.sign_at.ensures.is c.in-None.is
