-- `places_of`: the places of the things before this one are known.
use Rattle.lists.specs.Places.{behind_thing}
use Rattle.lists.proofs.Beginning.{PlacesTo}
use Rattle.lists.proofs.walking.places_of.Given as goal

abbrev pub invariant-loop-i : goal.invariant-loop-i
invariant-loop-i l = PlacesTo (behind_thing l.thing) l.n l.s l.i l.at l.places
