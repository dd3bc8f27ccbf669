-- `places_of`: the places of the things before this one are known.
use borrow.Author.Rules.{rules}
use Rattle.lists.proofs.Beginning.{places_laws}
use Rattle.lists.proofs.walking.places_of.Goals as goal

pub loop-i-init : goal.loop-i-init
loop-i-init c = search (rules, places_laws)

pub offset_bounds-places-i : goal.offset_bounds-places-i
offset_bounds-places-i c = search (rules, places_laws)

pub bounds-places-i : goal.bounds-places-i
bounds-places-i c = search (rules, places_laws)

pub behind-at-requires : goal.behind-at-requires
behind-at-requires c = search (rules, places_laws)

pub loop-i-preserved : goal.loop-i-preserved
loop-i-preserved c = search (rules, places_laws)

pub returns : goal.returns
returns c = search (rules, places_laws)
