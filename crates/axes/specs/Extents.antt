-- Extents in a slice, as the place of the first one and their number.
use Rattle.std.specs.Prelude.{◌≡◌, true, false, List, ℕ, ◌+◌, ◌≤◌, eqb, ℤ, length}
use Rattle.rules.specs.Lists.{any}
use Rattle.rules.specs.Layout.{within_product}
use Rattle.tables.specs.Rows.{row_at}

-- they lie in the slice, and the product of those that are not zero is within the limit
pub record Extents (at rank : ℕ) (s : List ℤ) : Type 0 where
  pub room : at + rank ≤ length s
  pub within : within_product (row_at at rank s) ≡ true

-- none of them is zero, and there is room for an index over them
pub record IndexAsked (at rank : ℕ) (s : List ℤ) (to : ℕ) (out : List ℤ) : Type 0 where
  pub extents : Extents at rank s
  pub nonzero : any (eqb 0) (row_at at rank s) ≡ false
  pub room : to + rank ≤ length out
