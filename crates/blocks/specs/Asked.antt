-- What is asked of a layout.
use Rattle.std.specs.Prelude.{Bool, not, ◌||◌, eqb, ltb, get_or}
use Rattle.rules.specs.Lists.{all}
use Rattle.rules.specs.Layout.{Layout, rank, is_dense, is_diagonal, is_sparse}
use Rattle.blocks.specs.declared.asking.Ask.{Ask}
use Rattle.blocks.specs.declared.asking.Ask.TheVariants.{Within, OfRank, Dense, Sparse, Diagonal, DenseAxes, Stretches, Extent}

-- whether a layout passes
abbrev pub asked : Ask → Layout → Bool
asked (Within r) = λ l. not (ltb r (rank l))
asked (OfRank r) = λ l. eqb (rank l) r
asked Dense = is_dense
asked Sparse = is_sparse
asked Diagonal = λ l. is_diagonal l || all (eqb 1) l.shape
asked (DenseAxes d) = λ l. is_dense l || eqb l.dense d
asked (Stretches axis common) = λ l. eqb (get_or l.shape axis 1) 1 || eqb (get_or l.shape axis 1) common
asked (Extent axis e) = λ l. eqb (get_or l.shape axis 0) e

-- it is not dense
abbrev pub otherwise : Layout → Bool
otherwise l = not (is_dense l)
