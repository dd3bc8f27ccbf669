-- The layout that blocks are joined to, in the target of a window.
use Rattle.std.specs.Prelude.{◌≡◌, Bool, true, ◌&&◌, List, [], map, ℕ, ◌+◌, ◌-◌, ◌<◌, ◌≤◌, ℤ, length, get_or, drop}
use Rattle.rules.specs.Limits.{rank_limit}
use Rattle.rules.specs.Lists.{all}
use Rattle.rules.specs.RowsInOrder.{sorted}
use Rattle.rules.specs.Buffers.{part}
use Rattle.rules.specs.Refusals.{Verdict, in_form, ◌then◌}
use Rattle.rules.specs.Layout.{Layout, rank, width, few, with_deps, within_product, made}
use Rattle.rules.specs.Soundness.{WellFormed}
use Rattle.rules.specs.Record.{sound}
use Rattle.rules.specs.CountsAndForms.{dense_if_full}
use Rattle.rules.specs.Concatenate.{Block, joined_deps}
use Rattle.cells.specs.View.{view}
use Rattle.tables.specs.Rows.{row_at}
use Rattle.tables.specs.Tables.{table_at, Only, Ready}
use Rattle.parts.specs.Parts.{window_size, target, extents_from, rows_from, states_from, kind_at, dense_at, rank_at, layout_at, inputs_from}
use Rattle.lists.specs.Places.{standing, Inside, EachAt, PlacesOf}
use Rattle.lists.specs.Starts.{blocks_at, starts_in, StartsOf}
use Rattle.lists.specs.Records.{JudgedRecord}
use Rattle.entries.specs.declared.entries.Listed.{Listed}
use Rattle.entries.specs.declared.entries.Listed.TheVariants.{Rows, States, Inputs}
use Rattle.entries.specs.Listing.{axes_in}
use Rattle.entries.specs.Merging.{small_to, joined, AllAsked, blocks_of}

-- ---- what is made

-- a head, and no rows
abbrev pub bare : ℕ → ℕ → List ℕ → Layout
bare kind dense shape = record { kind = kind; dense = dense; shape = shape; rows = []; states = []; inputs = [] }

-- a sparse layout with the rows of all blocks
abbrev pub sparse_of : ℕ → List ℕ → ℕ → List Block → Layout
sparse_of dense shape r blocks = record { kind = 2; dense = dense; shape = shape; rows = sorted (joined Rows r blocks); states = []; inputs = [] }

-- a layout with the dependencies of all blocks
abbrev pub with_joined : ℕ → List Block → Layout → Layout
with_joined r blocks l = with_deps (joined_deps r (λ x. x.states) blocks) (joined_deps r (λ x. x.inputs) blocks) l

-- joined by rows, and dense if these number the product
abbrev pub by_rows : ℕ → List ℕ → ℕ → List Block → Verdict Layout
by_rows dense shape r blocks = in_form dense_if_full (made (sparse_of dense shape r blocks)) then λ l. made (with_joined r blocks l)

-- a list of all blocks is small and not too long
abbrev pub kept : Listed → ℕ → ℕ → List Block → Bool
kept x r w blocks = all (small_to (axes_in x r w)) (joined x r blocks) && few (sorted (joined x r blocks))

-- both lists of dependencies are
abbrev pub deps_kept : ℕ → List Block → Bool
deps_kept r blocks = kept States r (r + 1) blocks && kept Inputs r (r + 1) blocks

-- ---- in the target

-- the head and the rows of a layout stand there
pub record Framed (l : Layout) (t : List ℤ) : Type 0 where
  pub kind_is : kind_at target t ≡ l.kind
  pub dense_is : dense_at target t ≡ l.dense
  pub rank_is : rank_at target t ≡ rank l
  pub shape_is : part (target + extents_from) (rank l) (view t) ≡ l.shape
  pub rows_are : table_at (target + rows_from) (width l) t ≡ l.rows
  pub few : get_or (view t) (target + rows_from) 0 ≤ 128

-- a kind, a D and a rank, and a window
pub record FrameAsked (kind dense r : ℕ) (t : List ℤ) : Type 0 where
  pub kind_most : kind ≤ 2
  pub dense_most : dense ≤ r
  pub rank_most : r ≤ rank_limit
  pub room : window_size ≤ length t

-- they stand there with no rows
pub record FrameMade (l : Layout) (s t : List ℤ) : Type 0 where
  pub frame : Framed l t
  pub size : length t ≡ length s

-- ---- dependencies

-- all blocks, and a window
pub record DepsAsked (r n : ℕ) (places : List ℕ) (starts : List (List ℕ)) (s t : List ℤ) : Type 0 where
  pub rank_most : r ≤ rank_limit
  pub states : AllAsked States r (r + 1) n places starts s
  pub inputs : AllAsked Inputs r (r + 1) n places starts s
  pub room : window_size ≤ length t

-- the dependencies of all blocks are those of the target, if they are few and small
pub record DepsMade (r : ℕ) (blocks : List Block) (s t : List ℤ) (b : Bool) : Type 0 where
  pub verdict : b ≡ deps_kept r blocks
  pub states : b ≡ true → table_at (target + states_from) (r + 1) t ≡ joined_deps r (λ x. x.states) blocks
  pub inputs : b ≡ true → table_at (target + inputs_from) (r + 1) t ≡ joined_deps r (λ x. x.inputs) blocks
  pub states_ready : b ≡ true → Ready (target + states_from) (r + 1) t
  pub inputs_ready : b ≡ true → Ready (target + inputs_from) (r + 1) t
  pub only : Only (target + states_from) window_size s t

-- ---- the layout

-- the layout in the target is sound but for its dependencies, which fit it
pub record CompleteAsked (r n : ℕ) (places : List ℕ) (starts : List (List ℕ)) (s t : List ℤ) : Type 0 where
  pub deps : DepsAsked r n places starts s t
  pub frame : Framed (layout_at target t) t
  pub rank_is : rank (layout_at target t) ≡ r
  pub form : WellFormed (with_joined r (blocks_of r n places s) (layout_at target t))
  pub product : within_product (layout_at target t).shape ≡ true
  pub rows_few : few (layout_at target t).rows ≡ true

-- a head that is sound but for the product of its extents
pub record BareAsked (kind dense : ℕ) (extents : List ℤ) (r n : ℕ) (places : List ℕ) (starts : List (List ℕ)) (s t : List ℤ) : Type 0 where
  pub deps : DepsAsked r n places starts s t
  pub four : length extents ≡ rank_limit
  pub kind_most : kind ≤ 2
  pub dense_most : dense ≤ r
  pub form : WellFormed (with_joined r (blocks_of r n places s) (bare kind dense (row_at 0 r extents)))

-- a diagonal that is sound, but for the product of its extents, if an axis is left for it
pub record DiagonalAsked (dense : ℕ) (extents : List ℤ) (r n : ℕ) (places : List ℕ) (starts : List (List ℕ)) (s t : List ℤ) : Type 0 where
  pub deps : DepsAsked r n places starts s t
  pub four : length extents ≡ rank_limit
  pub dense_most : dense ≤ r
  pub form : dense < r → WellFormed (with_joined r (blocks_of r n places s) (bare 1 dense (row_at 0 r extents)))

-- all blocks, whose rows have R - D numbers, and extents within the limit
pub record RowsAsked (dense : ℕ) (extents : List ℤ) (r n : ℕ) (places : List ℕ) (starts : List (List ℕ)) (s t : List ℤ) : Type 0 where
  pub rows : AllAsked Rows r (r - dense) n places starts s
  pub four : length extents ≡ rank_limit
  pub dense_most : dense ≤ r
  pub rank_most : r ≤ rank_limit
  pub product : within_product (row_at 0 r extents) ≡ true
  pub room : window_size ≤ length t

-- the rows of all blocks make the target sparse or dense, if they are few and small
pub record RowsMade (dense : ℕ) (extents : List ℤ) (r : ℕ) (blocks : List Block) (s t : List ℤ) (b : Bool) : Type 0 where
  pub verdict : b ≡ kept Rows r (r - dense) blocks
  pub frame : b ≡ true → Framed (dense_if_full (sparse_of dense (row_at 0 r extents) r blocks)) t
  pub size : length t ≡ length s

-- the same, and rows that are below the extents
pub record SparseAsked (dense : ℕ) (extents : List ℤ) (r n : ℕ) (places : List ℕ) (starts : List (List ℕ)) (s t : List ℤ) : Type 0 where
  pub deps : DepsAsked r n places starts s t
  pub rows : AllAsked Rows r (r - dense) n places starts s
  pub four : length extents ≡ rank_limit
  pub dense_most : dense ≤ r
  pub form : WellFormed (sparse_of dense (row_at 0 r extents) r (blocks_of r n places s))
  pub small : within_product (row_at 0 r extents) ≡ true → all (small_to (r - dense)) (joined Rows r (blocks_of r n places s)) ≡ true
  pub joins : (l : Layout) → rank l ≡ r → WellFormed l → WellFormed (with_joined r (blocks_of r n places s) l)

-- ---- blocks

-- n blocks as they were judged: where they begin, where their records do, all sound, their starts by value; and a window
pub record JoinAsked (r n : ℕ) (places records : List ℕ) (starts : List (List ℕ)) (s t : List ℤ) : Type 0 where
  pub rank_most : r ≤ rank_limit
  pub inside : Inside n places s
  pub moved : PlacesOf (map (drop (r + 1)) (standing n places s)) n s records
  pub judged : all sound (standing n records s) ≡ true
  pub known : EachAt JudgedRecord n records s
  pub begun : StartsOf (starts_in (blocks_at r n places s)) starts
  pub room : window_size ≤ length t
