-- Which positions of its shape a layout holds, for every kind and D.
use Rattle.std.specs.Prelude.{Bool, true, ◌&&◌, List, ℕ, length, take, eqb}
use Rattle.rules.specs.Lists.{if, keep, all_below}
use Rattle.rules.specs.RowsInOrder.{cmp_rows, is_less, among}
use Rattle.rules.specs.Layout.{Layout, width, is_dense, is_diagonal, alike}
use Rattle.rules.specs.Removal.{positions}

-- a position of a shape: one component for each axis, below its extent
abbrev pub is_position : List ℕ → List ℕ → Bool
is_position shape index = eqb (length index) (length shape) && all_below index shape

-- a position of the shape is held if its first R - D components are: anything (dense), all equal (diagonal), a row (sparse)
unfoldable pub holds : Layout → List ℕ → Bool
holds l index =
    let front : List ℕ = take (width l) index in
    is_position l.shape index && if (is_dense l) true (if (is_diagonal l) (alike front) (among front l.rows))

-- the positions held, in order
abbrev pub held_positions : Layout → List (List ℕ)
held_positions l = keep (holds l) (positions l.shape)

-- how many positions before an index are held
abbrev pub held_before : Layout → List ℕ → ℕ
held_before l index = length (keep (λ q. holds l q && is_less (cmp_rows q index)) (positions l.shape))
