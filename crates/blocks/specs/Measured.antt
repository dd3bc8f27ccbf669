-- What is measured of a block, and how measures are taken together.
use Rattle.std.specs.Prelude.{List, ℕ, ◌+◌, ◌<◌, get_or}
use Rattle.rules.specs.Limits.{rank_limit}
use Rattle.rules.specs.Lists.{sum, larger, largest}
use Rattle.rules.specs.Concatenate.{Block, first_extent}
use Rattle.blocks.specs.declared.measuring.Measure.{Measure}
use Rattle.blocks.specs.declared.measuring.Measure.TheVariants.{First, Extent, Reach}
use Rattle.blocks.specs.declared.measuring.Fold.{Fold}
use Rattle.blocks.specs.declared.measuring.Fold.TheVariants.{Sum, Largest}

-- the measure of a block
abbrev pub measure : Measure → Block → ℕ
measure First = λ b. first_extent b.layout
measure (Extent axis) = λ b. get_or b.layout.shape axis 0
measure (Reach axis) = λ b. get_or b.start axis 0 + get_or b.layout.shape axis 0

-- a start has a number for each of four axes
abbrev pub Measurable : Measure → Type 0
Measurable First = Unit {0}
Measurable (Extent axis) = Unit {0}
Measurable (Reach axis) = axis < rank_limit

-- two measures together
abbrev pub added : Fold → ℕ → ℕ → ℕ
added Sum = λ x y. x + y
added Largest = larger

-- all of them
abbrev pub folded : Fold → List ℕ → ℕ
folded Sum = sum
folded Largest = largest

-- a start and an extent come to at most this, and sixteen of them to this
abbrev pub measure_limit : ℕ
measure_limit = 131072

abbrev pub fold_limit : ℕ
fold_limit = 2097152
