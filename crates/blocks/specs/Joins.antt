-- How blocks are joined, by cases.
use Rattle.std.specs.Prelude.{Bool, not, ◌&&◌, List, [], map, ℕ, ◌-◌, eqb, ltb, get_or}
use Rattle.rules.specs.Limits.{rank_limit}
use Rattle.rules.specs.Lists.{if, all, any, keep, sum, fit_to}
use Rattle.rules.specs.Layout.{Layout, rank, is_dense, is_sparse}
use Rattle.rules.specs.Concatenate.{Block, layouts_of, shapes_of, first_extent, run_on_first, run_on_diagonal, later_extent, later_agree, joined_shape, first_d, blocks_d, last_agree, agree, all_diagonal, join_diagonal, reach, joined_rows}
use Rattle.blocks.specs.declared.deciding.Way.{Way}
use Rattle.blocks.specs.declared.deciding.Way.TheVariants.{Unjoinable, Dense, Diagonal, Rows}
use Rattle.blocks.specs.declared.deciding.Join.{Join}
use Rattle.blocks.specs.Asked.{otherwise}

-- ---- the way

-- all dense, one behind the other: later extents agree
abbrev pub way_dense : ℕ → List Block → Way
way_dense r blocks = if (later_agree r (shapes_of blocks)) Dense Unjoinable

-- by rows: all sparse where there are dense axes
abbrev pub rows_way : ℕ → List Layout → Way
rows_way d layouts = if (ltb 0 d && not (all is_sparse layouts)) Unjoinable Rows

-- otherwise: along the diagonal, or by rows
unfoldable pub way_other : ℕ → List Block → Way
way_other r blocks =
    if (agree r blocks) (if (all_diagonal blocks && run_on_diagonal r blocks) Diagonal (rows_way (blocks_d blocks) (layouts_of blocks))) Unjoinable

-- the way in which blocks are joined to a layout of rank r
unfoldable pub way_of : ℕ → List Block → Way
way_of r blocks =
    if (any (λ l. ltb r (rank l)) (layouts_of blocks)) Unjoinable
    (if (all is_dense (layouts_of blocks) && run_on_first r blocks) (way_dense r blocks) (way_other r blocks))

-- what `agree` says of layouts, d being the D of the first one not dense
unfoldable pub agree_on : ℕ → ℕ → List Layout → Bool
agree_on d r layouts =
    all (λ l. eqb l.dense d) (keep otherwise layouts)
    && all (λ l. eqb (rank l) r) layouts
    && last_agree (r - d) (map (λ l. l.shape) layouts)

-- ---- what they are joined to

-- the dense-axis count
abbrev pub dense_by : Way → ℕ → List Layout → ℕ
dense_by Unjoinable r layouts = 0
dense_by Dense r layouts = r
dense_by Diagonal r layouts = first_d (keep otherwise layouts)
dense_by Rows r layouts = first_d (keep otherwise layouts)

-- the shape
abbrev pub shape_by : Way → ℕ → List Block → List ℕ
shape_by Unjoinable r blocks = []
shape_by Dense r blocks = joined_shape r blocks
shape_by Diagonal r blocks = (join_diagonal r blocks).shape
shape_by Rows r blocks = (joined_rows r blocks).shape

-- the extent of an axis
abbrev pub extent_by : Way → List Block → ℕ → ℕ
extent_by Unjoinable blocks axis = 0
extent_by Dense blocks axis =
    if (eqb axis 0) (sum (map first_extent (layouts_of blocks))) (later_extent (shapes_of blocks) axis)
extent_by Diagonal blocks axis = sum (map (λ shape. get_or shape axis 0) (shapes_of blocks))
extent_by Rows blocks axis = reach blocks axis

-- how blocks are joined to a layout of rank r
abbrev pub join_of : ℕ → List Block → Join
join_of r blocks = record {
  way = way_of r blocks;
  dense = dense_by (way_of r blocks) r (layouts_of blocks);
  extents = fit_to rank_limit 0 (shape_by (way_of r blocks) r blocks);
}
