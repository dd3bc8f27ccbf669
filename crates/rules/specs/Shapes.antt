-- Module 1, shapes: the common shape, and whether a shape broadcasts to another.
use Rattle.std.specs.Prelude.{Bool, not, ◌&&◌, ◌||◌, List, [], ◌∷◌, map, ℕ, length, get_or, eqb, ℤ}
use Rattle.rules.specs.Lists.{all, any, none, below, largest, same}
use Rattle.rules.specs.Refusals.{Verdict, given, ◌then◌, ◌when◌, lowest}
use Rattle.rules.specs.Layout.{within_product}
use Rattle.rules.specs.Record.{shapes_in, shape_in, good_shape}
use Rattle.rules.specs.Arguments.{over_count, over_shape}

-- axes are aligned on the left; missing ones count 1
unfoldable pub extents : ℕ → List (List ℕ) → List ℕ
extents axis shapes = map (λ shape. get_or shape axis 1) shapes

-- an axis of the common shape is the largest extent
abbrev pub common_extent : ℕ → List (List ℕ) → ℕ
common_extent axis shapes = largest (extents axis shapes)

-- each other extent must be 1 or equal
abbrev pub axis_agrees : ℕ → List (List ℕ) → Bool
axis_agrees axis shapes = all (λ e. eqb e 1 || eqb e (common_extent axis shapes)) (extents axis shapes)

-- as many axes as the longest shape has
abbrev pub common_axes : List (List ℕ) → List ℕ
common_axes shapes = below (largest (map length shapes))

unfoldable pub common_shape : List (List ℕ) → List ℕ
common_shape shapes = map (λ axis. common_extent axis shapes) (common_axes shapes)

unfoldable pub shapes_agree : List (List ℕ) → Bool
shapes_agree shapes = all (λ axis. axis_agrees axis shapes) (common_axes shapes)

-- 6: they do not agree, or there is nothing to broadcast; 13: the common shape passes the limit
unfoldable pub broadcast_shapes : List (List ℕ) → Verdict (List ℕ)
broadcast_shapes shapes =
    lowest (6 when (none shapes || not (shapes_agree shapes)) ∷ 13 when not (within_product (common_shape shapes)) ∷ [])
    then λ _. given (common_shape shapes)

-- whether the common shape of both is the first one; never 6 and never 13
unfoldable pub can_broadcast_to : List ℕ → List ℕ → Bool
can_broadcast_to to source = shapes_agree (to ∷ source ∷ []) && same (common_shape (to ∷ source ∷ [])) to

-- ---- the calls

unfoldable pub broadcast_shapes_call : List ℤ → ℤ → Verdict (List ℕ)
broadcast_shapes_call s n =
    lowest (1 when (over_count n || any over_shape (shapes_in n s)) ∷ 5 when not (all good_shape (shapes_in n s)) ∷ [])
    then λ _. broadcast_shapes (map shape_in (shapes_in n s))

unfoldable pub can_broadcast_to_call : List ℤ → List ℤ → Verdict Bool
can_broadcast_to_call to source =
    lowest (1 when (over_shape to || over_shape source) ∷ 5 when not (good_shape to && good_shape source) ∷ [])
    then λ _. given (can_broadcast_to (shape_in to) (shape_in source))
