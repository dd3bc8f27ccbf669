-- The folds go from the last, and 9 is judged in the first alone. Assumes nothing.
use mathlib.Core.Path.{◌≡◌, refl, sym}
use mathlib.Core.Bool.{Bool, true, false}
use mathlib.Core.List.{List, [], ◌∷◌}
use Rattle.rules.specs.declared.Rule.{Rule}
use Rattle.rules.specs.Refusals.{Verdict, given, refused, ◌then◌, ◌when◌, lowest}
use Rattle.rules.specs.Layout.{Layout}
use Rattle.rules.specs.Broadcast.{combine, divides_by_sparse, fold_onto, fold_back}
use Rattle.fold.specs.Folded.{fold_from}

-- behind the first fold 9 is not judged
fold_onto_lem : (rule : Rule) (l : Layout) (layouts : List Layout) → fold_from false rule l layouts ≡ fold_onto rule l layouts
unfolding fold_from fold_onto lowest
fold_onto_lem rule l [] = refl
fold_onto_lem rule l (next ∷ layouts) = by (combine rule l next) (λ both. fold_onto_lem rule both layouts)
  where
    by : (v : Verdict Layout) → ((both : Layout) → fold_from false rule both layouts ≡ fold_onto rule both layouts) →
        (v then λ both. fold_from false rule both layouts) ≡ (v then λ both. fold_onto rule both layouts)
    by (given both) f = f both
    by (refused n) f = refl

-- the last one first
pub fold_back_lem : (rule : Rule) (last : Layout) (layouts : List Layout) → fold_back rule (last ∷ layouts) ≡ fold_from true rule last layouts
unfolding fold_back fold_from fold_onto lowest
fold_back_lem rule last [] = refl
fold_back_lem rule last (next ∷ layouts) = by (divides_by_sparse rule last next)
  where
    after : (v : Verdict Layout) → (v then λ both. fold_onto rule both layouts) ≡ (v then λ both. fold_from false rule both layouts)
    after (given both) = sym (fold_onto_lem rule both layouts)
    after (refused n) = refl

    by : (t : Bool) → (lowest (9 when t ∷ []) then λ _. combine rule last next then λ both. fold_onto rule both layouts) ≡
        ((lowest (9 when t ∷ []) then λ _. combine rule last next) then λ both. fold_from false rule both layouts)
    by true = refl
    by false = after (combine rule last next)
