-- Module 7, removal: dense axes of a sparse layout become listed ones.
use Rattle.std.specs.Prelude.{Bool, not, ◌&&◌, List, [], ◌∷◌, ◌++◌, map, ℕ, ◌-◌, take, drop, ltb}
use Rattle.rules.specs.Lists.{none, gather, below}
use Rattle.rules.specs.RowsInOrder.{sorted_few}
use Rattle.rules.specs.Layout.{Layout, rank, width}
use Rattle.rules.specs.Dependencies.{on_index}

-- every index of a shape, in order
unfoldable pub positions : List ℕ → List (List ℕ)
positions [] = [] ∷ []
positions (e ∷ shape) = gather (λ v. map (λ index. v ∷ index) (positions shape)) (below e)

-- the axes before the last ones, of which there are old D less new
abbrev pub kept_axes : Layout → ℕ → ℕ
kept_axes l new = rank l - (l.dense - new)

-- the indices of the last axes
abbrev pub last_positions : Layout → ℕ → List (List ℕ)
last_positions l new = positions (drop (kept_axes l new) l.shape)

-- the rows, each with every one of the ends behind it
abbrev pub crossed : List (List ℕ) → List (List ℕ) → List (List ℕ)
crossed rows ends = gather (λ r. map (λ t. r ++ t) ends) rows

-- each row gets every value on the last axes
unfoldable pub removed_rows : Layout → ℕ → List (List ℕ)
removed_rows l new = crossed l.rows (last_positions l new)

-- each row with every index of the dense axes behind it
abbrev pub full_rows : Layout → List (List ℕ)
full_rows l = crossed l.rows (positions (drop (width l) l.shape))

-- and so does each dependency
unfoldable pub removed_deps : Layout → ℕ → List (List ℕ) → List (List ℕ)
removed_deps l new deps =
    sorted_few (gather (λ d. map (λ t. on_index (λ index. take (kept_axes l new) index ++ t) d) (last_positions l new)) deps)

-- 12: it lists a row while the new D is above 0
unfoldable pub lists_row : Layout → ℕ → Bool
lists_row l new = ltb 0 new && ltb new l.dense && not (none (removed_rows l new))

unfoldable pub remove_dense_axes : Layout → ℕ → Layout
remove_dense_axes l new = record {
  kind = l.kind;
  dense = new;
  shape = l.shape;
  rows = removed_rows l new;
  states = removed_deps l new l.states;
  inputs = removed_deps l new l.inputs;
}
