-- The rows of two layouts, joined in the target.
use Rattle.std.specs.Prelude.{◌≡◌, Bool, true, List, ℕ, ◌+◌, ◌-◌, ℤ}
use Rattle.rules.specs.RowsInOrder.{merge}
use Rattle.rules.specs.Layout.{Layout, few}
use Rattle.rules.specs.Pairs.{lowered, lower_d, with_merged}
use Rattle.rules.specs.Union.{joined}
use Rattle.tables.specs.Tables.{table_at, Only}
use Rattle.parts.specs.Parts.{rows_from, window_size, left, right, target, rank_at, layout_at}

-- the rows of both with the smaller D
abbrev pub joined_rows : ℕ → List ℤ → List (List ℕ)
joined_rows d s = merge (lowered (layout_at left s) d).rows (lowered (layout_at right s) d).rows

-- they stand in the target, if they are not too many
pub record RowsJoined (d : ℕ) (s t : List ℤ) (r : Bool) : Type 0 where
  pub verdict : r ≡ few (joined_rows d s)
  pub table : r ≡ true → table_at (target + rows_from) (rank_at left s - d) t ≡ joined_rows d s
  pub only : Only target window_size s t

-- the union by rows
abbrev pub united_rows : Layout → Layout → Layout
united_rows a b = with_merged a b (joined (lowered a (lower_d a b)) (lowered b (lower_d a b)))
