-- Entries of a record in a range along an axis, and what is left of each, over the shape and the ranks alone.
use Rattle.std.specs.Prelude.{◌≡◌, Bool, false, not, ◌&&◌, ◌||◌, List, map, ℕ, ◌+◌, ◌-◌, ◌<◌, ◌≤◌, eqb, leb, ltb, ℤ, length, get_or, take}
use Rattle.rules.specs.declared.Entries.{Entries}
use Rattle.rules.specs.Limits.{rank_limit, entry_limit}
use Rattle.rules.specs.Lists.{keep, below, all_below}
use Rattle.rules.specs.RowsInOrder.{increasing}
use Rattle.rules.specs.Layout.{Layout, rank, is_dense}
use Rattle.rules.specs.Dependencies.{index_of, on_index}
use Rattle.rules.specs.FilterDepsFrom.{wide_axes, cut_axis, less_start}
use Rattle.cells.specs.View.{view}
use Rattle.tables.specs.Rows.{row_at, rows_at, HasRow, HasRows}
use Rattle.tables.specs.Tables.{room_end}
use Rattle.moving.specs.Sections.{TableMade}
use Rattle.range.specs.declared.Cut.{Cut}

-- ---- the axis

-- the axes whose extent is over 1
abbrev pub wide_of : List ℕ → List ℕ
wide_of shape = keep (λ axis. ltb 1 (get_or shape axis 0)) (below (length shape))

-- how many they are, and the first of them, which is an axis if there is any
pub record WideIs (shape : List ℕ) (count first : ℕ) : Type 0 where
  pub count_is : count ≡ length (wide_of shape)
  pub first_is : first ≡ get_or (wide_of shape) 0 0
  pub within : first ≤ length shape - 1

-- a source cannot be cut for a target of a rank
abbrev pub uncuttable : ℕ → Layout → Bool
uncuttable few source = not (is_dense source) || eqb (rank source) 0 || ltb 1 (length (wide_axes source)) || ltb (rank source) few

-- the axis that is cut, one of the source's
pub record CutAlong (few : ℕ) (source : Layout) (axis : ℕ) : Type 0 where
  pub can_cut : uncuttable few source ≡ false
  pub is : axis ≡ cut_axis source
  pub within : axis < rank source

-- ---- an entry

-- it lies in the shape, and in the range
abbrev pub in_cut : Cut → List ℕ → List ℕ → Bool
in_cut cut shape dep =
    all_below (index_of dep) shape
    && leb cut.start (get_or (index_of dep) cut.axis 0)
    && ltb (get_or (index_of dep) cut.axis 0) cut.end

-- what is left of it
abbrev pub cut_dep : Cut → List ℕ → List ℕ
cut_dep cut dep = on_index (λ index. less_start cut.axis cut.start (take cut.rank index)) dep

-- those in the range, cut
unfoldable pub cut_by : Cut → List ℕ → List (List ℕ) → List (List ℕ)
cut_by cut shape deps = map (cut_dep cut) (keep (in_cut cut shape) deps)

-- ---- what is asked, and what is made

-- an entry behind the extents of its record, and an axis of it
pub record EntryAsked (at rank : ℕ) (cut : Cut) (s : List ℤ) : Type 0 where
  pub entry : HasRow at (rank + 1) s
  pub shape_lies_in : 3 + rank ≤ length s
  pub axis_in : cut.axis < rank

-- an entry not below the start, of a rank that can be shortened to the one asked
pub record RowAsked (at rank : ℕ) (cut : Cut) (s : List ℤ) : Type 0 where
  pub entry : HasRow at (rank + 1) s
  pub rank_few : rank ≤ rank_limit
  pub shorter : cut.rank ≤ rank
  pub axis_in : cut.axis < rank
  pub least : cut.start ≤ get_or (view s) (at + cut.axis) 0

-- entries of a record with an axis that is cut, and room for a table at a place of a part
pub record CutAsked (rank : ℕ) (deps : Entries) (cut : Cut) (s : List ℤ) (at : ℕ) (t : List ℤ) : Type 0 where
  pub has : HasRows deps.first (rank + 1) deps.count s
  pub few : deps.count ≤ entry_limit
  pub shape_lies_in : 3 + rank ≤ length s
  pub rank_few : rank ≤ rank_limit
  pub shorter : cut.rank ≤ rank
  pub axis_in : cut.axis < rank
  pub room : room_end at (cut.rank + 1) ≤ length t

-- those in the range, cut, are the table, and whether they increase was told
pub record DepsCut (rank : ℕ) (deps : Entries) (cut : Cut) (s : List ℤ) (at : ℕ) (t u : List ℤ) (r : Bool) : Type 0 where
  pub made : TableMade at (cut.rank + 1) (cut_by cut (row_at 3 rank s) (rows_at deps.first (rank + 1) deps.count s)) t u
  pub told : r ≡ increasing (cut_by cut (row_at 3 rank s) (rows_at deps.first (rank + 1) deps.count s))
