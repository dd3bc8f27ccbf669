-- A record as it is written, piece by piece, and the layouts that constructors write.
use Rattle.std.specs.Prelude.{List, [], ◌∷◌, ◌++◌, ℕ, ◌+◌, ◌^◌, ◌<◌, ◌≤◌, ℤ, pos, length}
use Rattle.rules.specs.Layout.{Layout}
use Rattle.rules.specs.Record.{entries_of, naturals}

-- kind, D, the extents behind their count, the numbers of the rows behind theirs, and both dependency sections
unfoldable pub pieces : ℕ → ℕ → List ℤ → ℕ → List ℤ → List ℤ → List ℤ
pieces kind dense extents count rows deps =
    pos kind ∷ pos dense ∷ pos (length extents) ∷ (extents ++ (pos count ∷ (rows ++ deps)))

-- they are numbers of a slice, and there is room for all
pub record PiecesFit (kind dense count : ℕ) (extents rows deps result : List ℤ) : Type 0 where
  pub kind_small : kind < 2 ^ 31
  pub dense_small : dense < 2 ^ 31
  pub count_small : count < 2 ^ 31
  pub extents_few : length extents < 2 ^ 31
  pub room : 4 + length extents + length rows + length deps ≤ length result

-- no dependencies: two counts of 0
abbrev pub no_deps : List ℤ
no_deps = pos 0 ∷ pos 0 ∷ []

-- a diagonal layout of a shape
abbrev pub diagonal_of : List ℕ → Layout
diagonal_of shape = record { kind = 1; dense = 0; shape = shape; rows = []; states = []; inputs = [] }

-- a sparse layout of a shape and n rows
abbrev pub sparse_of : List ℕ → ℕ → List ℤ → Layout
sparse_of shape n numbers = record {
  kind = 2;
  dense = 0;
  shape = shape;
  rows = entries_of (length shape) n (naturals numbers);
  states = [];
  inputs = [];
}
