-- A layout, when it is sound, and its record.
use Rattle.std.specs.Prelude.{Bool, true, not, ◌&&◌, ◌||◌, List, [], ◌∷◌, ◌++◌, map, ℕ, suc, ◌-◌, length, take, eqb, leb, ℤ, pos}
use Rattle.rules.specs.declared.Kind.{Kind}
use Rattle.rules.specs.declared.Kind.TheVariants.{Dense, Diagonal, Sparse}
use Rattle.rules.specs.Limits.{rank_limit, entry_limit, product_limit, component_limit}
use Rattle.rules.specs.Lists.{if, implies, all, none, keep, gather, product, all_below}
use Rattle.rules.specs.RowsInOrder.{increasing, sorted}
use Rattle.rules.specs.Refusals.{Verdict, given, ◌then◌, ◌when◌, lowest}

-- kind, dense-axis count D, extents, rows, and the dependencies on states and on inputs
pub record Layout : Type 0 where
  pub kind : ℕ
  pub dense : ℕ
  pub shape : List ℕ
  pub rows : List (List ℕ)
  pub states : List (List ℕ)
  pub inputs : List (List ℕ)

-- the rank R is the count of extents
abbrev pub rank : Layout → ℕ
rank l = length l.shape

-- rows have R - D numbers
abbrev pub width : Layout → ℕ
width l = rank l - l.dense

-- kinds: 0 dense, 1 diagonal, 2 sparse
abbrev pub is_dense : Layout → Bool
is_dense l = eqb l.kind 0

abbrev pub is_diagonal : Layout → Bool
is_diagonal l = eqb l.kind 1

abbrev pub is_sparse : Layout → Bool
is_sparse l = eqb l.kind 2

-- the kind that a number stands for: any above 1 is read as sparse, and a sound layout has none above 2
unfoldable pub kind_of : ℕ → Kind
kind_of n = if (eqb n 0) Dense (if (eqb n 1) Diagonal Sparse)

-- the same layout with other dependencies
abbrev pub with_deps : List (List ℕ) → List (List ℕ) → Layout → Layout
with_deps states inputs l = record {
  kind = l.kind;
  dense = l.dense;
  shape = l.shape;
  rows = l.rows;
  states = states;
  inputs = inputs;
}

-- ---- soundness

-- the product of the nonzero extents
abbrev pub nonzero_product : List ℕ → ℕ
nonzero_product shape = product (keep (λ e. not (eqb e 0)) shape)

-- it is at most 65,536
unfoldable pub within_product : List ℕ → Bool
within_product shape = leb (nonzero_product shape) product_limit

-- no two rows are equal: sorted once each, they are as many
abbrev pub distinct : List (List ℕ) → Bool
distinct rows = eqb (length (sorted rows)) (length rows)

-- a row has R - D components, each below its extent
abbrev pub row_fits : Layout → List ℕ → Bool
row_fits l row = eqb (length row) (width l) && all_below row l.shape

-- all numbers equal the first
unfoldable pub alike : List ℕ → Bool
alike [] = true
alike (x ∷ l) = all (eqb x) l

-- a diagonal layout has R - D >= 1 and its first R - D extents equal
abbrev pub diagonal_fits : Layout → Bool
diagonal_fits l = leb 1 (width l) && alike (take (width l) l.shape)

-- a dependency has R components and a number; a list of them strictly increases by index, then number
abbrev pub deps_fit : Layout → List (List ℕ) → Bool
deps_fit l deps = all (λ d. eqb (length d) (suc (rank l))) deps && increasing deps

-- soundness other than by size
unfoldable pub well_formed : Layout → Bool
well_formed l =
    leb l.kind 2
    && leb l.dense (rank l)
    && leb (rank l) rank_limit
    && (is_sparse l || none l.rows)
    && distinct l.rows
    && all (row_fits l) l.rows
    && implies (is_dense l) (eqb l.dense (rank l))
    && implies (is_diagonal l) (diagonal_fits l)
    && deps_fit l l.states
    && deps_fit l l.inputs

-- at most 128 entries
abbrev pub few : List (List ℕ) → Bool
few entries = leb (length entries) entry_limit

-- the components of a dependency are at most 65,535; the shape does not bound them
abbrev pub deps_small : Layout → List (List ℕ) → Bool
deps_small l deps = all (λ d. all (λ c. leb c component_limit) (take (rank l) d)) deps

-- the size limits of soundness
unfoldable pub within_sizes : Layout → Bool
within_sizes l =
    within_product l.shape
    && few l.rows
    && few l.states
    && few l.inputs
    && deps_small l l.states
    && deps_small l l.inputs

unfoldable pub sound_layout : Layout → Bool
sound_layout l = well_formed l && within_sizes l

-- a layout made on the way: 12 if it breaks soundness other than by size, 13 if it passes a size limit
unfoldable pub made : Layout → Verdict Layout
made l = lowest (12 when not (well_formed l) ∷ 13 when not (within_sizes l) ∷ []) then λ _. given l

-- ---- the record of a layout

-- a section: its count, then its entries
abbrev pub section : List (List ℕ) → List ℕ
section entries = length entries ∷ gather (λ e. e) entries

-- kind, D, then extents, rows, state dependencies and input dependencies, each after its count
unfoldable pub encode : Layout → List ℤ
encode l = map pos (l.kind ∷ l.dense ∷ rank l ∷ l.shape ++ section l.rows ++ section l.states ++ section l.inputs)
