-- What is known of an index once it was judged, and of many; and what stands for the answer of a lookup.
use Rattle.std.specs.Prelude.{None, Option, Some}
use Rattle.std.specs.Prelude.{◌≡◌, true, List, map, ℕ, ◌*◌, ◌^◌, ◌<◌, ℤ, pos, negsuc, length, get_or}
use Rattle.rules.specs.Record.{natural, naturals, layout_in}
use Rattle.rules.specs.Arguments.{good_components, good_index}
use Rattle.rules.specs.Lookup.{read_index}

-- an index of a record that was judged, and how it is read
pub record IndexRead (s index read : List ℤ) : Type 0 where
  pub good : good_index index (natural (get_or s 2 (pos 0))) ≡ true
  pub is : read ≡ map pos (read_index (naturals index) (layout_in s).shape)

-- so many numbers as n indices of r components have, and all are components
pub record Indices (n r : ℕ) (indices : List ℤ) : Type 0 where
  pub wide : length indices ≡ n * r
  pub good : good_components indices ≡ true

-- a place that a slice can hold
abbrev pub PlaceLow : Option ℕ → Type 0
PlaceLow (Some p) = p < 2 ^ 31
PlaceLow None = Unit

-- the number that stands for an answer
abbrev pub number_in : Option ℕ → ℤ
number_in (Some p) = pos p
number_in None = negsuc 0
