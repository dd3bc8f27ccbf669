-- `exchange_slots`: 1, or both layouts made and then stored, or a refusal of one of the two calls.
use Rattle.judging.proofs.SoundRecords.{NoneOver, none_over}
use Rattle.parts.proofs.Lent.{lent_of}
use Rattle.pile.proofs.Exchanging.{ends_over_first, ends_over_second, ends_refused, ends_made}
use Prim.Native.Nat.{◌+◌}
use Rattle.pile.proofs.exchange_slots.Goals as goal
use Rattle.pile.proofs.exchange_slots.Goals.{Else-over_record-2}

-- neither record has too many numbers
none : (c : Else-over_record-2) → NoneOver (lent_of c.args.a (c.args.a + 1802) c.args.pile.now) (lent_of c.args.b (c.args.b + 1802) c.args.pile.now)
none c = none_over _ _ c.over_record.ensures c.if-over_record.false c.over_record-2.ensures c.if-over_record-2.false

pub returns-then-over_record : goal.returns-then-over_record
returns-then-over_record c = ends_over_first _ _ _ _ c.over_record.ensures c.if-over_record.true

pub returns-then-over_record-2 : goal.returns-then-over_record-2
returns-then-over_record-2 c = ends_over_second _ _ _ _ c.over_record.ensures c.if-over_record.false c.over_record-2.ensures c.if-over_record-2.true

pub returns-in-Ok : goal.returns-in-Ok
returns-in-Ok c = ends_made _ _ _ (none (goal.at.returns-in-Ok c).Else-over_record-2) c.make_both.ensures c.in-Ok.is c.store_both.ensures c.clear.ensures

pub returns-in-Err : goal.returns-in-Err
returns-in-Err c = ends_refused _ _ _ (none (goal.at.returns-in-Err c).Else-over_record-2) c.make_both.ensures c.in-Err.is c.clear-in-Err.ensures
