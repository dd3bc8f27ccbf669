-- `exchange`: 2, 5, or the slots exchanged.
use Rattle.pile.proofs.Places.{slots_handed, slots_told, wrong_told}
use Rattle.pile.proofs.Calling.{ends_short, ends_wrong, ends_slots}
use lib.ListN.{length}
use Rattle.pile.specs.Slots.{SlotsAre}
use Rattle.pile.proofs.exchange.Goals.{After-two_slots}
use Rattle.pile.proofs.exchange.Goals as goal

pub returns-then-work-lt-WORK : goal.returns-then-work-lt-WORK
returns-then-work-lt-WORK c = ends_short _ _ _ _ c.if-work-lt-WORK.true

slots_at : (c : After-two_slots) → SlotsAre c.args.first c.args.second (length c.args.pile.now) c.two_slots.result
slots_at c = slots_handed _ _ c.ranges.first c.ranges.second (length c.args.pile.now) c.two_slots.result c.two_slots.ensures

pub returns-in_default : goal.returns-in_default
returns-in_default c =
    let slots = slots_at (goal.at.returns-in_default c).After-two_slots in
    ends_wrong _ _ _ _ c.if-work-lt-WORK.false (wrong_told c.args.first c.args.second (length c.args.pile.now) slots c.in_default.is) c.clear.ensures

pub returns : goal.returns
returns c =
    let slots = slots_at (goal.at.returns c).After-two_slots in
    ends_slots _ _ _ _ c.if-work-lt-WORK.false (slots_told c.args.first c.args.second (length c.args.pile.now) slots c.in-Some.is) c.exchange_slots.ensures
