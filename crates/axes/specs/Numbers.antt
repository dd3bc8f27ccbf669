-- Rows below extents, known by their numbers in row-major order; and numbers of which none, or some, stands at two places.
use Rattle.std.specs.Prelude.{◌≡◌, Bool, true, false, List, map, ℕ, ◌<◌, ◌≤◌, ℤ, length, get_or}
use Rattle.rules.specs.Lists.{all, all_below}
use Rattle.rules.specs.Positions.{ravel_index}
use Rattle.tables.specs.Rows.{row_at, rows_at, HasRow, HasRows}
use Rattle.axes.specs.Extents.{Extents}

-- ---- rows

-- the row of w numbers at a of s is an index over the extents at a place of t
pub record RowInside (a at w : ℕ) (s t : List ℤ) : Type 0 where
  pub row : HasRow a w s
  pub extents : Extents at w t
  pub inside : all_below (row_at a w s) (row_at at w t) ≡ true

-- so are n rows from a on
pub record RowsInside (a at w n : ℕ) (s t : List ℤ) : Type 0 where
  pub rows : HasRows a w n s
  pub extents : Extents at w t
  pub inside : all (λ row. all_below row (row_at at w t)) (rows_at a w n s) ≡ true

-- the number of each row
abbrev pub row_numbers : ℕ → ℕ → ℕ → ℕ → List ℤ → List ℤ → List ℕ
row_numbers a at w n s t = map (λ row. ravel_index row (row_at at w t)) (rows_at a w n s)

-- ---- numbers

-- v stands at a place before place i
pub record Place (v i : ℕ) (l : List ℕ) : Type 0 where
  pub at : ℕ
  pub before : at < i
  pub is : get_or l at 0 ≡ v

-- whether it does
abbrev pub Seen : ℕ → ℕ → List ℕ → Bool → Type 0
Seen v i l true = Place v i l
Seen v i l false = (k : ℕ) → k < i → get_or l k 0 ≡ v → ⊥

-- of the first i numbers, none that is at least a and below e stands before
abbrev pub Once : ℕ → ℕ → ℕ → List ℕ → Type 0
Once a e i l = (j : ℕ) → j < i → a ≤ get_or l j 0 → get_or l j 0 < e → Seen (get_or l j 0) j l false

-- one that is at least a and below e stands at two places
pub record Twice (a e : ℕ) (l : List ℕ) : Type 0 where
  pub second : ℕ
  pub within : second < length l
  pub least : a ≤ get_or l second 0
  pub under : get_or l second 0 < e
  pub first : Place (get_or l second 0) second l

-- whether all such numbers differ
abbrev pub DifferIn : ℕ → ℕ → List ℕ → Bool → Type 0
DifferIn a e l true = Once a e (length l) l
DifferIn a e l false = Twice a e l
