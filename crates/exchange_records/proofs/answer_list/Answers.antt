-- `answer_list`: no count, one outside 0..16, or what the records and the pairs give.
use Rattle.rules.specs.Refusals.{number_of}
use Rattle.record_text.proofs.Fronts.{front_is}
use Rattle.exchange_records.proofs.Judging.{list_none, list_negative, list_over, list_records}
use Rattle.exchange_records.proofs.answer_list.Goals as goal

pub returns-then-list-eq0 : goal.returns-then-list-eq0
unfolding number_of
returns-then-list-eq0 c = front_is (list_none _ c.if-list-eq0.true) c.write_refusal.ensures

pub returns-in_default : goal.returns-in_default
unfolding number_of
returns-in_default c = front_is (list_negative _ c.if-list-eq0.false c.sign_at.ensures.is c.in_default.is) c.write_refusal-in_default.ensures

pub returns-then-n-gt-LIST_LIMIT : goal.returns-then-n-gt-LIST_LIMIT
unfolding number_of
returns-then-n-gt-LIST_LIMIT c = front_is (list_over _ c.if-list-eq0.false c.sign_at.ensures.is c.in-Some.is c.if-n-gt-LIST_LIMIT.true) c.write_refusal-then-n-gt-LIST_LIMIT.ensures

pub returns : goal.returns
returns c = front_is (list_records _ c.if-list-eq0.false c.sign_at.ensures.is c.in-Some.is c.if-n-gt-LIST_LIMIT.false) c.answer_records.ensures
