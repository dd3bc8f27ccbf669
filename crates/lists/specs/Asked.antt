-- What is asked of a thing, what is measured of a shape, and what is known of a common shape.
use Rattle.std.specs.Prelude.{Ok, Result}
use Rattle.std.specs.Prelude.{◌≡◌, Bool, not, ◌||◌, List, map, ℕ, ◌<◌, ◌≤◌, eqb, ℤ, length, get_or}
use Rattle.rules.specs.declared.Refusal.{Refusal}
use Rattle.rules.specs.declared.Tuple.{Tuple}
use Rattle.rules.specs.Record.{shape_in, good_shape, block_at}
use Rattle.rules.specs.Arguments.{over_shape}
use Rattle.rules.specs.Concatenate.{good_block}
use Rattle.shapes.specs.Judged.{Judged}
use Rattle.lists.specs.declared.asks.Ask.{Ask}
use Rattle.lists.specs.declared.asks.Ask.TheVariants.{FewAxes, GoodShape, GoodBlock, Agrees}
use Rattle.lists.specs.declared.agreeing.Measure.{Measure}
use Rattle.lists.specs.declared.agreeing.Measure.TheVariants.{Rank, Extent}
use Rattle.lists.specs.Places.{standing}

-- whether the thing at the front of a slice passes
abbrev pub asked : Ask → List ℤ → Bool
asked FewAxes = λ s. not (over_shape s)
asked GoodShape = good_shape
asked (GoodBlock rank) = λ s. good_block (block_at rank s)
asked (Agrees axis common) = λ s. eqb (get_or (shape_in s) axis 1) 1 || eqb (get_or (shape_in s) axis 1) common

-- an axis is asked of a shape that was judged, anything else of any slice
abbrev pub Askable : Ask → List ℤ → Type 0
Askable FewAxes = λ s. Unit {0}
Askable GoodShape = λ s. Unit {0}
Askable (GoodBlock rank) = λ s. Unit {0}
Askable (Agrees axis common) = Judged

-- what is measured of a shape; a missing axis counts 1
abbrev pub measure : Measure → List ℕ → ℕ
measure Rank = length
measure (Extent axis) = λ shape. get_or shape axis 1

-- the shapes at the first n places
abbrev pub shapes_at : ℕ → List ℕ → List ℤ → List (List ℕ)
shapes_at n places s = map shape_in (standing n places s)

-- a shape by value that is given has at most 4 extents, and is that of some shapes
abbrev pub RankFew : ℕ → Result Tuple Refusal → Type 0
RankFew n r = (t : Tuple) → r ≡ Ok t → (t.count ≤ 4) × (0 < n)
