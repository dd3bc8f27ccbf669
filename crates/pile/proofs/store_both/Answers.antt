-- `store_both`: one slot after the other.
use native.Mathlib.Omega.{arith}
use Rattle.parts.proofs.Lent.{lent_part_holds}
use Rattle.pile.proofs.Storing.{both_stored}
use borrow.Author.Rules.{rules}
use Rattle.pile.proofs.store_both.Goals as goal

pub store_slot-requires : goal.store_slot-requires
store_slot-requires c = let union = lent_part_holds c.requires.holds.0 in
    let both = lent_part_holds c.requires.holds.1 in record {
      holds = search rules;
      result_size_in_bounds = c.requires.slots_in.first_in;
    }

pub store_slot-requires-2 : goal.store_slot-requires-2
store_slot-requires-2 c = let union = lent_part_holds c.requires.holds.0 in
    let both = lent_part_holds c.requires.holds.1 in record {
      holds = search rules;
      result_size_in_bounds = omega (arith, c.requires.slots_in.second_in, c.pile-1.given);
    }

pub returns : goal.returns
returns c = both_stored _ _ _ c.requires.holds.0 c.requires.holds.1 c.store_slot.ensures c.store_slot-2.ensures
