-- Rows stay in order where two layouts are combined, and what a stretching gives is the layout stretched. Assumes nothing.
use mathlib.Core.Path.{◌≡◌, refl, ap, ◌∙◌}
use mathlib.Core.Bool.{Bool, true, false, not, ◌&&◌, ◌||◌}
use mathlib.Core.List.{List, [], ◌∷◌, ◌++◌}
use Prim.Native.Nat.{ℕ, ◌+◌}
use lib.Dec.{ltb, eqb}
use lib.ListN.{length}
use Rattle.rules.specs.declared.Mode.{Mode}
use Rattle.rules.specs.declared.Rule.{Rule}
use Rattle.rules.specs.declared.Rule.TheVariants.{Unite, Multiply, Divide}
use Rattle.rules.specs.Lists.{if, same, keep, product}
use Rattle.rules.specs.RowsInOrder.{among, Increasing, increasing_nil}
use Rattle.rules.specs.Refusals.{given, ◌when◌}
use Rattle.rules.specs.Layout.{Layout, rank, is_dense, is_sparse, few, made}
use Rattle.rules.specs.CountsAndForms.{to_dense, dense_if_full}
use Rattle.rules.specs.Removal.{lists_row}
use Rattle.rules.specs.Pairs.{alike_diagonals, lowered, lower_d, bars_expansion, few_of}
use Rattle.rules.specs.Union.{union_of_rows, union}
use Rattle.rules.specs.Intersect.{filtered_by, bars_merged, with_dense, common, intersect_of_rows, intersect}
use Rattle.rules.specs.Stretching.{shared_axes_fit, stretched, broadcast_to_shape}
use Rattle.rules.specs.Broadcast.{combine}
use Rattle.rules.proofs.Sorting.{sorted_increasing}
use Rattle.rules.proofs.Giving.{Giving, given_such, giving_if, giving_step, giving_form, giving_made}

-- ---- rows stay in order

abbrev InOrder : Layout → Type 0
InOrder l = Increasing l.rows

-- rows that are in order, or none at all
full_order : (l : Layout) → InOrder l → InOrder (dense_if_full l)
unfolding dense_if_full to_dense
full_order l p = by (is_sparse l && eqb (length l.rows) (product l.shape))
  where
    by : (t : Bool) → InOrder (if t (to_dense l) l)
    by true = increasing_nil
    by false = p

module _ (a b : Layout) (p : InOrder a) (q : InOrder b) where
  union_in_order : Giving InOrder (union a b)
  unfolding union union_of_rows to_dense
  union_in_order =
      let d : ℕ = lower_d a b in
      let x : Layout = lowered a d in
      let y : Layout = lowered b d in
      giving_step InOrder (6 when not (same a.shape b.shape) ∷ []) _
      (giving_if InOrder (is_dense a || is_dense b) _ _ (λ _. giving_made InOrder _ (λ _. increasing_nil))
      (λ _. giving_if InOrder (alike_diagonals a b) _ _ (λ _. giving_made InOrder _ (λ _. p))
      (λ _. giving_step InOrder
      (11 when (bars_expansion a || bars_expansion b) ∷ 12 when (lists_row a d || lists_row b d) ∷ 13 when not (few x.rows && few y.rows) ∷ []) _
      (giving_made InOrder _ (λ _. sorted_increasing (x.rows ++ y.rows))))))

  intersect_in_order : Giving InOrder (intersect a b)
  unfolding intersect with_dense intersect_of_rows
  intersect_in_order =
      let d : ℕ = lower_d a b in
      let x : Layout = lowered a d in
      let y : Layout = lowered b d in
      giving_step InOrder (6 when not (same a.shape b.shape) ∷ []) _
      (giving_if InOrder (is_dense a) _ _ (λ _. giving_step InOrder (11 when bars_merged a b b ∷ []) _ (giving_made InOrder _ (λ _. q)))
      (λ _. giving_if InOrder (is_dense b) _ _ (λ _. giving_step InOrder (11 when bars_merged a b a ∷ []) _ (giving_made InOrder _ (λ _. p)))
      (λ _. giving_if InOrder (alike_diagonals a b) _ _ (λ _. giving_made InOrder _ (λ _. p))
      (λ _. giving_step InOrder
      (11 when (bars_expansion a || bars_expansion b || bars_merged x y (common x y)) ∷ 12 when (lists_row a d || lists_row b d) ∷ 13 when not (few_of x && few_of y) ∷ []) _
      (giving_form InOrder dense_if_full (made (filtered_by x y (common x y)))
      (giving_made (λ l. InOrder (dense_if_full l)) _ (λ _. full_order (filtered_by x y (common x y)) (sorted_increasing (keep (λ r. among r y.rows) x.rows)))))))))

  -- what two layouts in order are combined to is in order
  pub combine_in_order : (rule : Rule) {l : Layout} → combine rule a b ≡ given l → InOrder l
  unfolding combine
  combine_in_order Unite e = given_such InOrder (union a b) union_in_order e
  combine_in_order Multiply e = given_such InOrder (intersect a b) intersect_in_order e
  combine_in_order Divide e = given_such InOrder (intersect a b) intersect_in_order e

-- ---- all is stretched that may be

-- what a stretching gives
stretch_gives : (mode : Mode) (l : Layout) (shape : List ℕ) → Giving (λ x. x ≡ stretched mode l shape) (broadcast_to_shape mode l shape)
unfolding broadcast_to_shape
stretch_gives mode l shape =
    giving_step (λ x. x ≡ stretched mode l shape) (6 when not (shared_axes_fit l.shape shape) ∷ 11 when ltb (l.dense + length shape) (rank l) ∷ []) _ (giving_made (λ x. x ≡ stretched mode l shape) _ (λ _. refl))

pub given_is : (mode : Mode) (l : Layout) (shape : List ℕ) {x : Layout} → broadcast_to_shape mode l shape ≡ given x → x ≡ stretched mode l shape
given_is mode l shape e = given_such (λ y. y ≡ stretched mode l shape) (broadcast_to_shape mode l shape) (stretch_gives mode l shape) e

pub given_stretched : (mode : Mode) (l : Layout) (shape : List ℕ) {x : Layout} → broadcast_to_shape mode l shape ≡ given x → broadcast_to_shape mode l shape ≡ given (stretched mode l shape)
given_stretched mode l shape {x} e = e ∙ ap given (given_is mode l shape e)
