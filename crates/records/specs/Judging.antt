-- The tests that make a record sound, as they are put to the numbers of its slice.
use Rattle.std.specs.Prelude.{None, Option, Some}
use Rattle.std.specs.Prelude.{◌≡◌, Bool, true, false, ◌&&◌, ◌||◌, List, ℕ, ◌+◌, eqb, leb, ℤ, get_or, take}
use Rattle.rules.specs.declared.Entries.{Entries}
use Rattle.rules.specs.declared.Head.{Head}
use Rattle.rules.specs.Limits.{rank_limit, entry_limit, component_limit}
use Rattle.rules.specs.Lists.{implies, all, all_below}
use Rattle.rules.specs.Buffers.{part}
use Rattle.rules.specs.RowsInOrder.{increasing}
use Rattle.rules.specs.Layout.{alike, distinct}
use Rattle.rules.specs.Record.{walk}
use Rattle.cells.specs.View.{view, Low}
use Rattle.tables.specs.Rows.{rows_at}
use Rattle.records.specs.Heads.{HeadOf}

-- the rank and the counts are within their limits
unfoldable pub few_entries : Head → Bool
few_entries h =
    leb h.rank rank_limit && leb h.rows.count entry_limit && leb h.states.count entry_limit && leb h.inputs.count entry_limit

-- a walked record of few entries, whose numbers are natural and small
pub record Readable (h : Head) (s : List ℤ) : Type 0 where
  pub head : HeadOf h s
  pub few : few_entries h ≡ true
  pub low : Low (take h.inputs.next (view s))

-- a record that can be walked is readable
abbrev pub ReadableRecord : List ℤ → Type 0
ReadableRecord s = (h : Head) → walk s ≡ Some h → Readable h s

-- the kind is one of three, and sparse where there are rows
unfoldable pub kind_fits : ℕ → List ℤ → Bool
kind_fits count s = leb (get_or (view s) 0 0) 2 && (eqb (get_or (view s) 0 0) 2 || eqb count 0)

-- a dense layout has no axis for rows, and a diagonal one has some, whose extents are the same
unfoldable pub axes_fit : ℕ → List ℤ → Bool
axes_fit width s =
    implies (eqb (get_or (view s) 0 0) 0) (eqb width 0) && implies (eqb (get_or (view s) 0 0) 1) (leb 1 width && alike (part 3 width (view s)))

-- the components of a row are below the extents of the first w axes
abbrev pub below : ℕ → List ℤ → List ℕ → Bool
below w s r = all_below r (part 3 w (view s))

-- so are those of n rows at a
abbrev pub rows_below : ℕ → ℕ → ℕ → List ℤ → Bool
rows_below a w n s = all (below w s) (rows_at a w n s)

-- a component is small, and all of a dependency's are, before its number
abbrev pub small : ℕ → Bool
small c = leb c component_limit

abbrev pub small_dep : ℕ → List ℕ → Bool
small_dep rank d = all small (take rank d)

-- so are those of n dependencies at a
unfoldable pub small_deps : ℕ → ℕ → ℕ → List ℤ → Bool
small_deps a rank n s = all (small_dep rank) (rows_at a (rank + 1) n s)

-- rows are all different, and below the extents
unfoldable pub rows_fit : Entries → ℕ → List ℤ → Bool
rows_fit rows w s = distinct (rows_at rows.first w rows.count s) && rows_below rows.first w rows.count s

-- the rows of a record increase
abbrev pub rows_increase : Head → List ℤ → Bool
rows_increase h s = increasing (rows_at h.rows.first h.width h.rows.count s)

-- whether the rows increase, if they fit
unfoldable pub fit_of : Bool → Bool → Option Bool
fit_of true increase = Some increase
fit_of false increase = None

-- a record that fits is readable
abbrev pub ReadableFit : Option Bool → Head → List ℤ → Type 0
ReadableFit (Some increase) h s = Readable h s
ReadableFit None h s = Unit
