-- A list of shapes whose count was judged. Assumes nothing.
use mathlib.Core.Path.{◌≡◌, sym, ap, ◌∙◌}
use mathlib.Core.Bool.{Bool, not, ◌||◌}
use mathlib.Core.List.{List, [], ◌∷◌, map}
use Prim.Native.Nat.{ℕ}
use lib.IntN.{ℤ}
use Rattle.rules.specs.Lists.{all, any}
use Rattle.rules.specs.Refusals.{Verdict, ◌then◌, ◌when◌, lowest}
use Rattle.rules.specs.Record.{end_to_end, behind_shape, list_count, shape_in, good_shape}
use Rattle.rules.specs.Arguments.{over_count, over_shape}
use Rattle.rules.specs.Shapes.{broadcast_shapes, broadcast_shapes_call}
use Rattle.lists.specs.declared.asks.Ask.TheVariants.{FewAxes}
use Rattle.lists.specs.Places.{standing, Inside}
use Rattle.lists.specs.Asked.{asked}
use Rattle.lists.proofs.Asking.{any_all}

-- the call, over the shapes that there are
pub by_count : (s : List ℤ) (count : ℤ) (l : List (List ℤ)) {n : ℕ} {v : Verdict (List ℕ)} → n ≡ list_count count → l ≡ end_to_end behind_shape n s →
    v ≡ lowest (1 when (over_count count || any over_shape l) ∷ 5 when not (all good_shape l) ∷ []) then (λ _. broadcast_shapes (map shape_in l)) →
    v ≡ broadcast_shapes_call s count
unfolding broadcast_shapes_call
by_count s count l e f g = g ∙ rw (f, e)

module _ {n : ℕ} {places : List ℕ} {s : List ℤ} (p : Inside n places s) where
  -- one is over if not all have few axes
  pub over_listed : {b t : Bool} → b ≡ all (asked FewAxes) (standing n places s) → not b ≡ t → any over_shape (standing n places s) ≡ t
  over_listed e f = any_all over_shape (standing n places s) ∙ ap not (sym e) ∙ f
