-- Which numbers a broadcast can be refused with, and that what it gives is sound. Assumes nothing.
use mathlib.Core.Bool.{not, ◌||◌}
use mathlib.Core.List.{List, [], ◌∷◌, map, reverse}
use Prim.Native.Nat.{ℕ}
use lib.Dec.{eqb}
use lib.ListN.{length}
use Rattle.rules.specs.declared.Mode.{Mode}
use Rattle.rules.specs.declared.Rule.{Rule}
use Rattle.rules.specs.declared.Rule.TheVariants.{Unite, Multiply, Divide}
use Rattle.rules.specs.Lists.{none, product}
use Rattle.rules.specs.Refusals.{given, Reason, ◌when◌, lowest}
use Rattle.rules.specs.Layout.{Layout, rank, is_sparse, within_product}
use Rattle.rules.specs.Shapes.{shapes_agree, common_shape, broadcast_shapes}
use Rattle.rules.specs.Stretching.{broadcast_to_shape}
use Rattle.rules.specs.Broadcast.{combine, stretch_all, divides_by_sparse, fold_onto, fold_back, is_diagonal_in_rows, as_diagonal, end_of_broadcast, broadcast}
use Rattle.rules.proofs.Refusing.{Refusing, refusing_if, refusing_then, refusing_lowest, refusing_made}
use Rattle.rules.proofs.RefusedWith.{union_refusing, intersect_refusing, stretch_refusing}

-- 6, 9, 11, 12 and 13
module _ (P : ℕ → Type 0) (p6 : P 6) (p9 : P 9) (p11 : P 11) (p12 : P 12) (p13 : P 13) where
  -- the common shape
  shapes_refusing : (shapes : List (List ℕ)) → Refusing P (broadcast_shapes shapes)
  unfolding broadcast_shapes
  shapes_refusing shapes =
      let reasons : List Reason = 6 when (none shapes || not (shapes_agree shapes)) ∷ 13 when not (within_product (common_shape shapes)) ∷ [] in
      refusing_then P (lowest reasons) (λ _. given (common_shape shapes)) (refusing_lowest P reasons (p6, (p13, tt))) (λ _. tt)

  -- each stretching
  all_refusing : (mode : Mode) (shape : List ℕ) (layouts : List Layout) → Refusing P (stretch_all mode shape layouts)
  unfolding stretch_all
  all_refusing mode shape [] = tt
  all_refusing mode shape (l ∷ layouts) =
      refusing_then P (broadcast_to_shape mode l shape) _ (stretch_refusing P p12 p13 p6 p11 mode l shape)
      (λ first. refusing_then P (stretch_all mode shape layouts) _ (all_refusing mode shape layouts) (λ others. tt))

  -- each fold
  combine_refusing : (rule : Rule) (a b : Layout) → Refusing P (combine rule a b)
  unfolding combine
  combine_refusing Unite a b = union_refusing P p6 p11 p12 p13 a b
  combine_refusing Multiply a b = intersect_refusing P p6 p11 p12 p13 a b
  combine_refusing Divide a b = intersect_refusing P p6 p11 p12 p13 a b

  onto_refusing : (rule : Rule) (l : Layout) (layouts : List Layout) → Refusing P (fold_onto rule l layouts)
  unfolding fold_onto
  onto_refusing rule l [] = tt
  onto_refusing rule l (next ∷ layouts) = refusing_then P (combine rule l next) _ (combine_refusing rule l next) (λ both. onto_refusing rule both layouts)

  back_refusing : (rule : Rule) (layouts : List Layout) → Refusing P (fold_back rule layouts)
  unfolding fold_back
  back_refusing rule [] = p6
  back_refusing rule (last ∷ []) = tt
  back_refusing rule (last ∷ next ∷ layouts) =
      let reasons : List Reason = 9 when divides_by_sparse rule last next ∷ [] in
      refusing_then P (lowest reasons) _ (refusing_lowest P reasons (p9, tt)) (λ _. onto_refusing rule last (next ∷ layouts))

  -- the end
  end_refusing : (l : Layout) → Refusing P (end_of_broadcast l)
  unfolding end_of_broadcast
  end_refusing l =
      let reasons : List Reason = 12 when eqb (rank l) 0 ∷ [] in
      refusing_if P (not (is_sparse l)) _ _ (λ _. tt)
      (λ _. refusing_if P (eqb (length l.rows) (product l.shape)) _ _ (λ _. tt)
      (λ _. refusing_then P (lowest reasons) _ (refusing_lowest P reasons (p12, tt))
      (λ _. refusing_if P (is_diagonal_in_rows l) _ _ (λ _. refusing_made P p12 p13 (as_diagonal l)) (λ _. tt))))

  pub broadcast_refusing : (mode : Mode) (layouts : List Layout) (rule : Rule) → Refusing P (broadcast mode layouts rule)
  unfolding broadcast
  broadcast_refusing mode layouts rule =
      let shapes : List (List ℕ) = map (λ l. l.shape) layouts in
      refusing_then P (broadcast_shapes shapes) _ (shapes_refusing shapes)
      (λ shape. refusing_then P (stretch_all mode shape layouts) _ (all_refusing mode shape layouts)
      (λ all. refusing_then P (fold_back rule (reverse all)) _ (back_refusing rule (reverse all))
      (λ l. end_refusing l)))
