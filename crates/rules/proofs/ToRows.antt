-- By which of its rules `union` or `intersect` answers. Of these only the one for rows calls removal, and it is taken where
-- neither layout is dense. Assumes nothing.
use mathlib.Core.Path.{◌≡◌, refl}
use mathlib.Core.Bool.{Bool, true, false, not, ◌||◌}
use mathlib.Core.List.{[], ◌∷◌}
use Rattle.rules.specs.Lists.{if, same}
use Rattle.rules.specs.Refusals.{Verdict, refused, ◌then◌, ◌when◌, lowest}
use Rattle.rules.specs.Layout.{Layout, is_dense, made}
use Rattle.rules.specs.CountsAndForms.{to_dense}
use Rattle.rules.specs.Pairs.{with_merged, alike_diagonals}
use Rattle.rules.specs.Union.{union_of_rows, union}
use Rattle.rules.specs.Intersect.{with_dense, intersect_of_rows, intersect}
use Rattle.rules.proofs.Same.{same_true}

-- the rules for two layouts: 6 where shapes disagree, `whole` where one is dense, the diagonal of two with equal D, and otherwise
-- `rows`: neither is dense then
pub data CombinedBy (a b : Layout) (whole rows : Verdict Layout) : Verdict Layout → Type 0 where
  shapes_disagree : same a.shape b.shape ≡ false → CombinedBy a b whole rows (refused 6)
  one_dense : a.shape ≡ b.shape → is_dense a || is_dense b ≡ true → CombinedBy a b whole rows whole
  two_diagonals : a.shape ≡ b.shape → alike_diagonals a b ≡ true → CombinedBy a b whole rows (made (with_merged a b a))
  neither_dense : a.shape ≡ b.shape → is_dense a || is_dense b ≡ false → alike_diagonals a b ≡ false → CombinedBy a b whole rows rows

-- one test after the other is a test for either
one_test : {A : Type 0} (s t : Bool) (x y z : A) → if s x (if t y z) ≡ if (s || t) (if s x y) z
one_test true t x y z = refl
one_test false true x y z = refl
one_test false false x y z = refl

module _ (a b : Layout) where
  -- the first of them that holds
  one_of_them : (whole rows : Verdict Layout) → CombinedBy a b whole rows
      (lowest (6 when not (same a.shape b.shape) ∷ []) then λ _. if (is_dense a || is_dense b) whole (if (alike_diagonals a b) (made (with_merged a b a)) rows))
  unfolding lowest
  one_of_them whole rows = go (same a.shape b.shape) (is_dense a || is_dense b) (alike_diagonals a b) refl refl refl
    where
      go : (s t u : Bool) → same a.shape b.shape ≡ s → is_dense a || is_dense b ≡ t → alike_diagonals a b ≡ u →
          CombinedBy a b whole rows (lowest (6 when not s ∷ []) then λ _. if t whole (if u (made (with_merged a b a)) rows))
      go false t u e f g = shapes_disagree e
      go true true u e f g = one_dense (same_true e) f
      go true false true e f g = two_diagonals (same_true e) g
      go true false false e f g = neither_dense (same_true e) f g

  -- `union` of any two layouts
  pub union_by : CombinedBy a b (made (with_merged a b (to_dense a))) (union_of_rows a b) (union a b)
  unfolding union
  union_by = one_of_them _ _

  -- `intersect` of any two layouts
  pub intersect_by : CombinedBy a b (if (is_dense a) (with_dense a b b) (with_dense a b a)) (intersect_of_rows a b) (intersect a b)
  unfolding intersect
  intersect_by = rw (one_test (is_dense a) (is_dense b) (with_dense a b b) (with_dense a b a) _) (one_of_them _ _)
