-- `kind_fits` and `axes_fit`: what each kind asks of the rows and of the axes. Assumes nothing.
use mathlib.Core.Path.{◌≡◌, sym, ◌∙◌}
use mathlib.Core.Bool.{Bool, true, false, and-true}
use mathlib.Core.List.{List}
use Prim.Native.Nat.{ℕ, ◌<◌, ◌≤◌}
use native.Mathlib.Omega.{arith}
use borrow.Author.Tests.{le-leb, lt-leb, ne_eqb}
use lib.Dec.{eqb}
use lib.IntN.{ℤ}
use lib.ListN.{get_or}
use Rattle.rules.specs.Buffers.{part}
use Rattle.rules.specs.Layout.{alike}
use Rattle.cells.specs.View.{view}
use Rattle.records.specs.Judging.{kind_fits, axes_fit}

module _ {kind : ℕ} (s : List ℤ) (e : kind ≡ get_or (view s) 0 0) where
  -- ---- the kind and the rows

  module _ (count : ℕ) where
    -- the kind is none of the three
    pub no_kind : 2 < kind → false ≡ kind_fits count s
    unfolding kind_fits
    no_kind l = rw (← e, lt-leb kind 2)

    -- a sparse layout may have rows
    pub sparse_kind : kind ≡ 2 → true ≡ kind_fits count s
    unfolding kind_fits
    sparse_kind k = rw (← e, k)

    -- any other has none
    pub no_rows : kind ≤ 2 → (kind ≡ 2 → ⊥) → eqb count 0 ≡ kind_fits count s
    unfolding kind_fits
    no_rows l n = rw (← e, le-leb kind 2, ne_eqb kind 2)

  -- ---- the kind and the axes

  module _ (width : ℕ) where
    -- a dense layout has no axis for rows
    pub dense_axes : kind ≡ 0 → eqb width 0 ≡ axes_fit width s
    unfolding axes_fit
    dense_axes k = rw (← e, k) (sym (and-true (eqb width 0)))

    -- a diagonal one without such an axis
    pub no_diagonal : kind ≡ 1 → width ≡ 0 → false ≡ axes_fit width s
    unfolding axes_fit
    no_diagonal k w = rw (← e, k, w)

    -- and one with some
    pub diagonal_axes : {t : Bool} → kind ≡ 1 → (width ≡ 0 → ⊥) → t ≡ alike (part 3 width (view s)) → t ≡ axes_fit width s
    unfolding axes_fit
    diagonal_axes k w f = f ∙ rw (← e, k, le-leb 1 width (omega arith))

    -- a sparse one may have any
    pub sparse_axes : (kind ≡ 0 → ⊥) → (kind ≡ 1 → ⊥) → true ≡ axes_fit width s
    unfolding axes_fit
    sparse_axes m n = rw (← e, ne_eqb kind 0, ne_eqb kind 1)

pub ruleset rows = (no_kind, sparse_kind, no_rows)

pub ruleset axes = (dense_axes, no_diagonal, diagonal_axes, sparse_axes)
