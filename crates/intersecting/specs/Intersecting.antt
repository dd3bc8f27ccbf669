-- Two layouts in a window of parts, intersected: which dependencies meet a filter, and what is made in the target.
use Rattle.std.specs.Prelude.{◌⊎◌, ◌≡◌, Bool, true, not, ◌&&◌, List, ℕ, ◌+◌, ◌≤◌, ℤ, length, get_or}
use Rattle.rules.specs.Limits.{entry_limit, product_limit}
use Rattle.rules.specs.Lists.{if, none, same}
use Rattle.rules.specs.RowsInOrder.{sorted, merge, increasing}
use Rattle.rules.specs.Layout.{Layout, is_dense, few, nonzero_product, with_deps}
use Rattle.rules.specs.Dependencies.{filter_deps}
use Rattle.rules.specs.CountsAndForms.{dense_if_full}
use Rattle.rules.specs.Pairs.{lowered, few_of}
use Rattle.rules.specs.Intersect.{common, filtered_by}
use Rattle.cells.specs.View.{view}
use Rattle.tables.specs.Tables.{table_at, Only, Ready}
use Rattle.parts.specs.Parts.{part_size, states_from, inputs_from, window_size, left, right, target, spare, kind_at, rank_at, layout_at, Holds, Window}
use Rattle.lowering.specs.Lowering.{lowered_deps}
use Rattle.filtering.specs.Filtering.{filter_at, Filters}
use Rattle.combine.specs.declared.window.Way.TheVariants.{Dense}
use Rattle.combine.specs.Window.{way_of}

-- a window whose two layouts have their rows in order
pub record OrderedWindow (s : List ℤ) : Type 0 where
  pub window : Window s
  pub left_ordered : increasing (layout_at left s).rows ≡ true
  pub right_ordered : increasing (layout_at right s).rows ≡ true

-- ---- dependencies that meet a filter

-- a layout has a dependency, with its D lowered
abbrev pub depends : Layout → ℕ → Bool
depends l d = not (none (lowered_deps l d l.states) && none (lowered_deps l d l.inputs))

-- two layouts of one rank, and one of both by its place
pub record OtherAsked (other : ℕ) (s : List ℤ) : Type 0 where
  pub window : Window s
  pub ranks : rank_at left s ≡ rank_at right s
  pub holds : Holds other s

-- ---- lists that are merged and filtered

-- the head and the rows of a layout of their rank stand in the target
pub record MergeAsked (s : List ℤ) : Type 0 where
  pub window : Window s
  pub ranks : rank_at left s ≡ rank_at right s
  pub filters : Filters target s
  pub target_rank : rank_at target s ≡ rank_at left s

-- one of the two lists of dependencies, by its place in a part
abbrev pub ListPlace : ℕ → Type 0
ListPlace list = (list ≡ states_from) ⊎ (list ≡ inputs_from)

-- a list of a layout before the target, and a part behind it that takes what is held
pub record TakeAsked (at list to : ℕ) (s : List ℤ) : Type 0 where
  pub holds : Holds at s
  pub before : at + part_size ≤ target
  pub place : ListPlace list
  pub deps : Ready (at + list) (rank_at at s + 1) s
  pub filters : Filters target s
  pub target_rank : rank_at target s ≡ rank_at at s
  pub behind : spare ≤ to
  pub room : to + part_size ≤ length s

-- the list of a layout at a place, with its D lowered to d
abbrev pub lowered_list : ℕ → ℕ → ℕ → List ℤ → List (List ℕ)
lowered_list at d list s = lowered_deps (layout_at at s) d (table_at (at + list) (rank_at at s + 1) s)

-- those of its entries that the target holds stand in the other part, if the lowered ones are not too many; the same list of the target
-- is used on the way
pub record HeldTaken (at d list to : ℕ) (s t : List ℤ) (r : Bool) : Type 0 where
  pub verdict : r ≡ few (lowered_list at d list s)
  pub table : r ≡ true → table_at (to + list) (rank_at at s + 1) t ≡ filter_deps (filter_at target s) (lowered_list at d list s)
  pub ready : r ≡ true → Ready (to + list) (rank_at at s + 1) t
  pub middle : List ℤ
  pub lowering : Only (target + list) (target + list + 641) s middle
  pub keeping : Only (to + list) (to + list + 641) middle t

-- a list of both layouts, with D lowered to d, merged and filtered by a third
abbrev pub merged_list : ℕ → ℕ → List ℤ → List (List ℕ)
merged_list d list s = filter_deps (filter_at target s) (merge (lowered_list left d list s) (lowered_list right d list s))

-- a list of both layouts
pub record ListAsked (list : ℕ) (s : List ℤ) : Type 0 where
  pub asked : MergeAsked s
  pub place : ListPlace list

-- none of these lists is too long
abbrev pub few_in_list : ℕ → ℕ → List ℤ → Bool
few_in_list d list s = few (lowered_list left d list s) && few (lowered_list right d list s) && few (merged_list d list s)

-- it stands in the target, if none is too long
pub record ListMerged (d list : ℕ) (s t : List ℤ) (r : Bool) : Type 0 where
  pub verdict : r ≡ few_in_list d list s
  pub table : r ≡ true → table_at (target + list) (rank_at left s + 1) t ≡ merged_list d list s
  pub ready : r ≡ true → Ready (target + list) (rank_at left s + 1) t
  pub only : Only (target + list) window_size s t

-- both lists stand in the target behind its head and rows
pub record DepsMerged (d : ℕ) (s t : List ℤ) (r : Bool) : Type 0 where
  pub verdict : r ≡ few_in_list d states_from s && few_in_list d inputs_from s
  pub layout : r ≡ true → layout_at target t ≡ with_deps (merged_list d states_from s) (merged_list d inputs_from s) (filter_at target s)
  pub only : Only (target + states_from) window_size s t

-- ---- with a dense one

-- where the other one stands: the right layout if the left one is dense, else the left one
abbrev pub other_of : Layout → ℕ
other_of a = if (is_dense a) right left

-- the layouts have one shape and their rows in order, and one of them is dense
pub record DenseAsked (s : List ℤ) : Type 0 where
  pub ordered : OrderedWindow s
  pub shapes : same (layout_at left s).shape (layout_at right s).shape ≡ true
  pub way : way_of (layout_at left s) (layout_at right s) ≡ Dense

-- ---- by rows

-- the common rows of both, with D lowered to d, stand in the target behind a head, if neither has too many rows
pub record CommonMade (d : ℕ) (s t : List ℤ) (r : Bool) : Type 0 where
  pub verdict : r ≡ few (sorted (lowered (layout_at left s) d).rows) && few (sorted (lowered (layout_at right s) d).rows)
  pub layout : r ≡ true → filter_at target t ≡ common (lowered (layout_at left s) d) (lowered (layout_at right s) d)
  pub asked : r ≡ true → MergeAsked t
  pub only : Only target window_size s t

-- a sparse layout in the target
pub record FillAsked (s : List ℤ) : Type 0 where
  pub room : window_size ≤ length s
  pub rank_most : rank_at target s ≤ 4
  pub small : nonzero_product (layout_at target s).shape ≤ product_limit
  pub sparse : kind_at target s ≡ 2
  pub states_few : get_or (view s) (target + states_from) 0 ≤ entry_limit
  pub inputs_few : get_or (view s) (target + inputs_from) 0 ≤ entry_limit

-- it is dense now, if it was full
pub record FilledUp (s t : List ℤ) : Type 0 where
  pub layout : layout_at target t ≡ dense_if_full (layout_at target s)
  pub only : Only target window_size s t

-- the intersection of two layouts by rows, but that it may be full
abbrev pub common_of : Layout → Layout → ℕ → Layout
common_of a b d = filtered_by (lowered a d) (lowered b d) (common (lowered a d) (lowered b d))

-- no list of it or of a lowered layout is too long
abbrev pub few_common : Layout → Layout → ℕ → Bool
few_common a b d = few_of (lowered a d) && few_of (lowered b d) && few_of (common_of a b d)

-- it stands in the target, if none of these lists is too long
pub record CommonLaid (d : ℕ) (s t : List ℤ) (r : Bool) : Type 0 where
  pub verdict : r ≡ few_common (layout_at left s) (layout_at right s) d
  pub layout : r ≡ true → layout_at target t ≡ dense_if_full (common_of (layout_at left s) (layout_at right s) d)
  pub only : Only target window_size s t
