-- What a sound layout is, part by part, as facts: for contracts and laws. `sound_layout` of Layout is the test.
use Rattle.std.specs.Prelude.{◌≡◌, true, List, [], ℕ, suc, ◌^◌, ◌≤◌, ◌<◌, length, get_or, take}
use Rattle.rules.specs.Limits.{rank_limit, entry_limit, product_limit, component_limit}
use Rattle.rules.specs.Lists.{all_below}
use Rattle.rules.specs.RowsInOrder.{sorted, Each, Increasing}
use Rattle.rules.specs.Layout.{Layout, rank, width, nonzero_product, alike}

-- dependencies have R components and a number, and increase
pub record DepsFit (l : Layout) (deps : List (List ℕ)) : Type 0 where
  pub lengths : Each (λ d. length d ≡ suc (rank l)) deps
  pub increase : Increasing deps

-- each component of a dependency is at most 65,535
abbrev pub DepsSmall : Layout → List (List ℕ) → Type 0
DepsSmall l deps = Each (λ d. (k : ℕ) → k < rank l → get_or d k 0 ≤ component_limit) deps

-- kind at most 2, D at most R, R at most 4; rows only if sparse, no two equal, each of R - D numbers below the extents;
-- D is R if dense; R - D is at least 1 and its extents are equal if diagonal; dependencies of R + 1 numbers that increase
pub record WellFormed (l : Layout) : Type 0 where
  pub kind_most : l.kind ≤ 2
  pub dense_most : l.dense ≤ rank l
  pub rank_most : rank l ≤ rank_limit
  pub sparse_rows : (l.kind ≡ 2 → ⊥) → l.rows ≡ []
  pub rows_distinct : length (sorted l.rows) ≡ length l.rows
  pub row_lengths : Each (λ r. length r ≡ width l) l.rows
  pub rows_lie_below : Each (λ r. all_below r l.shape ≡ true) l.rows
  pub dense_all : l.kind ≡ 0 → l.dense ≡ rank l
  pub diagonal_wide : l.kind ≡ 1 → 1 ≤ width l
  pub diagonal_alike : l.kind ≡ 1 → alike (take (width l) l.shape) ≡ true
  pub states_fit : DepsFit l l.states
  pub inputs_fit : DepsFit l l.inputs

-- the nonzero extents multiply to at most 65,536, each list has at most 128 entries, a dependency's components are small
pub record WithinSizes (l : Layout) : Type 0 where
  pub product_most : nonzero_product l.shape ≤ product_limit
  pub rows_few : length l.rows ≤ entry_limit
  pub states_few : length l.states ≤ entry_limit
  pub inputs_few : length l.inputs ≤ entry_limit
  pub states_small : DepsSmall l l.states
  pub inputs_small : DepsSmall l l.inputs

-- well formed, and within the sizes
pub record Sound (l : Layout) : Type 0 where
  pub form : WellFormed l
  pub sizes : WithinSizes l

-- ---- the numbers of dependencies, which soundness does not bound

-- every number of every row is below n
abbrev pub NumbersBelow : ℕ → List (List ℕ) → Type 0
NumbersBelow n t = Each (λ r. (k : ℕ) → get_or r k 0 < n) t

-- every number of every dependency is below 2 ^ 31
pub record DepsLow (l : Layout) : Type 0 where
  pub states_low : NumbersBelow (2 ^ 31) l.states
  pub inputs_low : NumbersBelow (2 ^ 31) l.inputs
