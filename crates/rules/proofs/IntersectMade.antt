-- What an intersection is, case by case, and what did not bar it. Assumes nothing.
use mathlib.Core.Path.{◌≡◌, refl, ap, ◌∙◌, subst}
use mathlib.Core.Bool.{Bool, true, false, not, ◌&&◌, ◌||◌}
use mathlib.Core.List.{[], ◌∷◌}
use Prim.Native.Nat.{ℕ}
use borrow.Author.Tests.{not-false}
use Rattle.rules.specs.Lists.{if}
use Rattle.rules.specs.Refusals.{Verdict, given, refused, in_form, ◌then◌, ◌when◌, lowest}
use Rattle.rules.specs.Layout.{Layout, is_dense, made}
use Rattle.rules.specs.Soundness.{Sound}
use Rattle.rules.specs.CountsAndForms.{dense_if_full}
use Rattle.rules.specs.Removal.{lists_row}
use Rattle.rules.specs.Pairs.{with_merged, alike_diagonals, lowered, lower_d, bars_expansion, few_of}
use Rattle.rules.specs.Intersect.{filtered_by, bars_merged, with_dense, common, intersect_of_rows, intersect}
use Rattle.rules.proofs.Same.{true_not_false}
use Rattle.rules.proofs.Made.{made_sound}
use Rattle.rules.proofs.Forming.{full_sound}
use Rattle.rules.proofs.ToRows.{CombinedBy, shapes_disagree, one_dense, two_diagonals, neither_dense, intersect_by}
use Rattle.rules.proofs.Unions.{never}

-- the common rows of two layouts that are not dense, before they turn dense
abbrev pub common_of : Layout → Layout → Layout
common_of a b =
    let x : Layout = lowered a (lower_d a b) in
    let y : Layout = lowered b (lower_d a b) in
    filtered_by x y (common x y)

-- nothing bars lowering two layouts that are not dense, nor filtering by their common rows
pub record RowsMeet (a b : Layout) : Type 0 where
  pub plain : is_dense a || is_dense b ≡ false
  pub apart : alike_diagonals a b ≡ false
  pub expand : bars_expansion a || bars_expansion b ≡ false
  pub filter : bars_merged (lowered a (lower_d a b)) (lowered b (lower_d a b)) (common (lowered a (lower_d a b)) (lowered b (lower_d a b))) ≡ false
  pub bare : lists_row a (lower_d a b) || lists_row b (lower_d a b) ≡ false
  pub fews : few_of (lowered a (lower_d a b)) && few_of (lowered b (lower_d a b)) ≡ true

-- what an intersection is, and what did not bar it: the other where one is dense, the diagonal of two with equal D, or the common rows, dense if full
pub data MadeOf (a b : Layout) : Layout → Type 0 where
  made_right : is_dense a ≡ true → bars_merged a b b ≡ false → MadeOf a b (filtered_by a b b)
  made_left : is_dense b ≡ true → bars_merged a b a ≡ false → MadeOf a b (filtered_by a b a)
  made_diagonals : alike_diagonals a b ≡ true → MadeOf a b (with_merged a b a)
  made_rows : RowsMeet a b → Sound (common_of a b) → MadeOf a b (dense_if_full (common_of a b))

-- the shapes are equal, it is such a layout, and it is sound
pub record Intersecting (a b x : Layout) : Type 0 where
  pub shapes : a.shape ≡ b.shape
  pub way : MadeOf a b x
  pub is_sound : Sound x

-- a layout of which an intersection was made
module _ (a b : Layout) (e : a.shape ≡ b.shape) {x : Layout} where
  -- made as it is
  made_as : {y : Layout} → MadeOf a b y → made y ≡ given x → Intersecting a b x
  made_as m g = let s = made_sound g in subst (Intersecting a b) s.0 (record { shapes = e; way = m; is_sound = s.1 })

  -- with a dense one
  made_dense : (other : Layout) → (bars_merged a b other ≡ false → MadeOf a b (filtered_by a b other)) → with_dense a b other ≡ given x → Intersecting a b x
  unfolding with_dense lowest
  made_dense other m g = go (bars_merged a b other) refl g
    where
      go : (t : Bool) → bars_merged a b other ≡ t → (lowest (11 when t ∷ []) then λ _. made (filtered_by a b other)) ≡ given x → Intersecting a b x
      go true i h = absurd (never h)
      go false i h = made_as (m i) h

  -- of rows
  made_of_rows : is_dense a || is_dense b ≡ false → alike_diagonals a b ≡ false → intersect_of_rows a b ≡ given x → Intersecting a b x
  unfolding intersect_of_rows lowest
  made_of_rows f k g =
      go (bars_expansion a || bars_expansion b) (bars_merged left right (common left right)) (lists_row a d || lists_row b d) (not (few_of left && few_of right)) refl refl refl refl g
    where
      d : ℕ
      d = lower_d a b

      left : Layout
      left = lowered a d

      right : Layout
      right = lowered b d

      full : RowsMeet a b → (v : Verdict Layout) → made (common_of a b) ≡ v → in_form dense_if_full v ≡ given x → Intersecting a b x
      full m (given z) i h =
          let s = made_sound i in
          let is : dense_if_full (common_of a b) ≡ x = ap dense_if_full s.0 ∙ (cc) in
          subst (Intersecting a b) is (record { shapes = e; way = made_rows m s.1; is_sound = full_sound s.1 })
      full m (refused n) i h = absurd (never h)

      go : (p q t u : Bool) → bars_expansion a || bars_expansion b ≡ p → bars_merged left right (common left right) ≡ q → lists_row a d || lists_row b d ≡ t → not (few_of left && few_of right) ≡ u →
          (lowest (11 when (p || q) ∷ 12 when t ∷ 13 when u ∷ []) then λ _. in_form dense_if_full (made (common_of a b))) ≡ given x → Intersecting a b x
      go true q t u i j m n h = absurd (never h)
      go false true t u i j m n h = absurd (never h)
      go false false true u i j m n h = absurd (never h)
      go false false false true i j m n h = absurd (never h)
      go false false false false i j m n h =
          full (record { plain = f; apart = k; expand = i; filter = j; bare = m; fews = not-false (few_of left && few_of right) n }) (made (common_of a b)) refl h

-- an answer of `intersect` is such
pub intersect_made : (a b : Layout) {x : Layout} → intersect a b ≡ given x → Intersecting a b x
intersect_made a b {x} g = go (intersect_by a b) g
  where
    other : a.shape ≡ b.shape → (s t : Bool) → is_dense a ≡ s → is_dense b ≡ t → s || t ≡ true → if s (with_dense a b b) (with_dense a b a) ≡ given x → Intersecting a b x
    other e true t i j f h = made_dense a b e b (made_right i) h
    other e false true i j f h = made_dense a b e a (made_left j) h
    other e false false i j f h = absurd (true_not_false f refl)

    go : {v : Verdict Layout} → CombinedBy a b (if (is_dense a) (with_dense a b b) (with_dense a b a)) (intersect_of_rows a b) v → v ≡ given x → Intersecting a b x
    go (shapes_disagree e) h = absurd (never h)
    go (one_dense e f) h = other e (is_dense a) (is_dense b) refl refl f h
    go (two_diagonals e f) h = made_as a b e (made_diagonals f) h
    go (neither_dense e f k) h = made_of_rows a b e f k h
