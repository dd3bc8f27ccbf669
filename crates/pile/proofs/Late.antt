-- What an exchange makes of two records is refused with 3 or more. Assumes nothing.
use mathlib.Core.Bool.{Bool, true, false, not, ◌&&◌}
use mathlib.Core.List.{List, [], ◌∷◌}
use native.Mathlib.Omega.{arith}
use lib.IntN.{ℤ}
use Rattle.rules.specs.Refusals.{Verdict, given, refused, ◌then◌, ◌when◌, lowest}
use Rattle.rules.specs.Layout.{Layout}
use Rattle.rules.specs.Record.{layout_in, sound, ordered}
use Rattle.rules.specs.Union.{union}
use Rattle.rules.specs.Intersect.{intersect}
use Rattle.parts.proofs.Ending.{Late}
use Rattle.judging.proofs.PairCalls.{late_union, late_intersect}
use Rattle.pile.specs.Exchanging.{Both, both_of}

-- one step after the other
late_steps : (sound ordered : Bool) (u i : Verdict Layout) → Late u → Late i →
    Late {A = Both} (lowest (3 when not sound ∷ []) then λ _. u then λ either. lowest (4 when not ordered ∷ []) then λ _. i then λ both. given (record { united = either; common = both }))
unfolding lowest
late_steps false ordered u i p q = omega arith
late_steps true ordered (refused n) i p q = p
late_steps true false (given l) i p q = omega arith
late_steps true true (given l) (refused n) p q = q
late_steps true true (given l) (given m) p q = tt

pub late_both : (s t : List ℤ) → Late (both_of s t)
unfolding both_of
late_both s t = late_steps (sound s && sound t) (ordered s && ordered t) (union (layout_in s) (layout_in t)) (intersect (layout_in s) (layout_in t)) (late_union _ _) (late_intersect _ _)
