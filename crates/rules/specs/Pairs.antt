-- What `union` and `intersect` share: which layouts are alike, dependencies merged, and a layout that is not dense brought to
-- rows with the smaller D of the two.
use Rattle.std.specs.Prelude.{Bool, ◌&&◌, map, ℕ, min, get_or, replicate, eqb, ltb}
use Rattle.rules.specs.Lists.{if, below}
use Rattle.rules.specs.RowsInOrder.{merge}
use Rattle.rules.specs.Layout.{Layout, rank, is_diagonal, few, with_deps}
use Rattle.rules.specs.Removal.{remove_dense_axes}

-- a layout with the dependencies of two merged
abbrev pub with_merged : Layout → Layout → Layout → Layout
with_merged a b l = with_deps (merge a.states b.states) (merge a.inputs b.inputs) l

-- two diagonals with equal D
abbrev pub alike_diagonals : Layout → Layout → Bool
alike_diagonals a b = is_diagonal a && is_diagonal b && eqb a.dense b.dense

-- a diagonal expands to the rows (i,..,i)
unfoldable pub expanded : Layout → Layout
expanded l = record {
  kind = 2;
  dense = l.dense;
  shape = l.shape;
  rows = map (λ i. replicate (rank l) i) (below (get_or l.shape 0 0));
  states = l.states;
  inputs = l.inputs;
}

-- diagonals expand, and the larger D is lowered
unfoldable pub lowered : Layout → ℕ → Layout
lowered l new = if (is_diagonal l) (expanded l) (if (ltb new l.dense) (remove_dense_axes l new) l)

-- the smaller D of two layouts
abbrev pub lower_d : Layout → Layout → ℕ
lower_d a b = min a.dense b.dense

-- 11: a diagonal with dense axes does not expand
abbrev pub bars_expansion : Layout → Bool
bars_expansion l = is_diagonal l && ltb 0 l.dense

-- 13: an expansion is counted when it is done
abbrev pub few_of : Layout → Bool
few_of l = few l.rows && few l.states && few l.inputs
