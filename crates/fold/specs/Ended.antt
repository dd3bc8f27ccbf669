-- What a folded layout becomes, in its part.
use Rattle.std.specs.Prelude.{◌≡◌, false, List, [], ℕ, ◌≤◌, eqb, ℤ, length}
use Rattle.rules.specs.Lists.{product}
use Rattle.rules.specs.Layout.{Layout}
use Rattle.parts.specs.Parts.{rank_at, layout_at, Holds}

-- a layout in the part, and a kind and a D for it
pub record BareAsked (kind dense : ℕ) (s : List ℤ) : Type 0 where
  pub holds : Holds 0 s
  pub kind_most : kind ≤ 2
  pub dense_most : dense ≤ rank_at 0 s

-- the same layout with that kind and D, and no rows
abbrev pub bare_of : ℕ → ℕ → Layout → Layout
bare_of kind dense l = record { kind = kind; dense = dense; shape = l.shape; rows = []; states = l.states; inputs = l.inputs }

-- it stands in the part
pub record Bared (kind dense : ℕ) (s t : List ℤ) : Type 0 where
  pub layout : layout_at 0 t ≡ bare_of kind dense (layout_at 0 s)
  pub size : length t ≡ length s

-- a sparse layout that is not full
pub record SparseEnd (s : List ℤ) : Type 0 where
  pub holds : Holds 0 s
  pub sparse : (layout_at 0 s).kind ≡ 2
  pub not_full : eqb (length (layout_at 0 s).rows) (product (layout_at 0 s).shape) ≡ false
