-- Module 13, `concatenate`: blocks joined to one layout of the asked rank.
use Rattle.std.specs.Prelude.{Bool, true, not, ◌&&◌, ◌||◌, List, [], ◌∷◌, map, ℕ, ◌+◌, ◌-◌, get_or, drop, replicate, eqb, ltb, ℤ}
use Rattle.std.specs.Int.Signed.{non_neg}
use Rattle.rules.specs.Lists.{if, all, any, none, keep, gather, from, below, sum, larger, largest, same, fit_to}
use Rattle.rules.specs.RowsInOrder.{sorted}
use Rattle.rules.specs.Refusals.{Verdict, given, in_form, ◌then◌, ◌when◌, lowest}
use Rattle.rules.specs.Layout.{Layout, rank, is_dense, is_diagonal, is_sparse, with_deps, made}
use Rattle.rules.specs.Record.{natural, naturals, layout_in, sound, RawBlock, blocks_in}
use Rattle.rules.specs.Arguments.{over_count, over_rank, over_record, short_result, short_work, good_end, good_flag}
use Rattle.rules.specs.Dependencies.{on_index}
use Rattle.rules.specs.CountsAndForms.{dense, new_scalar, dense_if_full}
use Rattle.rules.specs.Removal.{positions}
use Rattle.rules.specs.Pairs.{expanded}

-- where a block starts, whether it is flagged as zero, and its layout
pub record Block : Type 0 where
  pub start : List ℕ
  pub zero : Bool
  pub layout : Layout

abbrev pub layouts_of : List Block → List Layout
layouts_of blocks = map (λ b. b.layout) blocks

abbrev pub shapes_of : List Block → List (List ℕ)
shapes_of blocks = map (λ b. b.layout.shape) blocks

-- a scalar's first extent is 1
abbrev pub first_extent : Layout → ℕ
first_extent l = get_or l.shape 0 1

-- each block starts at the place of the running first extent
unfoldable pub start_at : (ℕ → List ℕ) → ℕ → List Block → Bool
start_at place run [] = true
start_at place run (b ∷ blocks) = same b.start (place run) && start_at place (run + first_extent b.layout) blocks

-- starts at the running first extent and 0 elsewhere
abbrev pub run_on_first : ℕ → List Block → Bool
run_on_first r blocks = start_at (λ run. fit_to r 0 (run ∷ [])) 0 blocks

-- starts run along the diagonal
abbrev pub run_on_diagonal : ℕ → List Block → Bool
run_on_diagonal r blocks = start_at (λ run. replicate r run) 0 blocks

-- ---- all dense

-- a later extent is the largest, at least 1
abbrev pub later_extent : List (List ℕ) → ℕ → ℕ
later_extent shapes axis = larger 1 (largest (map (λ shape. get_or shape axis 0) shapes))

-- the axes after the first
abbrev pub later_axes : ℕ → List ℕ
later_axes r = from 1 (r - 1)

-- each later extent is 1 or that
abbrev pub later_agree : ℕ → List (List ℕ) → Bool
later_agree r shapes =
    all (λ axis. all (λ shape. eqb (get_or shape axis 1) 1 || eqb (get_or shape axis 1) (later_extent shapes axis)) shapes) (later_axes r)

-- first extents summed; a joined scalar is a scalar
abbrev pub joined_shape : ℕ → List Block → List ℕ
joined_shape r blocks =
    if (eqb r 0) [] (sum (map first_extent (layouts_of blocks)) ∷ map (later_extent (shapes_of blocks)) (later_axes r))

unfoldable pub join_dense : ℕ → List Block → Verdict Layout
join_dense r blocks =
    lowest (10 when not (later_agree r (shapes_of blocks)) ∷ []) then λ _. given (dense (joined_shape r blocks))

-- ---- otherwise

abbrev pub not_dense : List Block → List Layout
not_dense blocks = keep (λ l. not (is_dense l)) (layouts_of blocks)

-- D is that of the first block not dense, 0 if none
unfoldable pub first_d : List Layout → ℕ
first_d [] = 0
first_d (l ∷ layouts) = l.dense

abbrev pub blocks_d : List Block → ℕ
blocks_d blocks = first_d (not_dense blocks)

-- the last D extents do not differ
unfoldable pub last_agree : ℕ → List (List ℕ) → Bool
last_agree kept [] = true
last_agree kept (shape ∷ shapes) = all (λ other. same (drop kept shape) (drop kept other)) shapes

-- 10: another block not dense has a different D, ranks are not all the asked rank, or last D extents differ
unfoldable pub agree : ℕ → List Block → Bool
agree r blocks =
    all (λ l. eqb l.dense (blocks_d blocks)) (not_dense blocks)
    && all (λ l. eqb (rank l) r) (layouts_of blocks)
    && last_agree (r - blocks_d blocks) (shapes_of blocks)

-- all are diagonal or of extents 1
abbrev pub all_diagonal : List Block → Bool
all_diagonal blocks = all (λ l. is_diagonal l || all (eqb 1) l.shape) (layouts_of blocks)

-- extents summed
abbrev pub join_diagonal : ℕ → List Block → Layout
join_diagonal r blocks = record {
  kind = 1;
  dense = blocks_d blocks;
  shape = map (λ axis. sum (map (λ shape. get_or shape axis 0) (shapes_of blocks))) (below r);
  rows = [];
  states = [];
  inputs = [];
}

-- number by number, a row or an index moved by a start
unfoldable pub moved_by : List ℕ → List ℕ → List ℕ
moved_by [] index = index
moved_by (s ∷ start) [] = []
moved_by (s ∷ start) (c ∷ index) = (s + c) ∷ moved_by start index

-- the rows that a block lists
abbrev pub rows_of_block : Layout → List (List ℕ)
rows_of_block l = if (is_dense l) (positions l.shape) (if (is_diagonal l) (expanded l).rows l.rows)

-- rows of unflagged blocks, moved by start
abbrev pub moved_rows : Block → List (List ℕ)
moved_rows b = if b.zero [] (map (moved_by b.start) (rows_of_block b.layout))

-- an extent is the largest start plus extent, zero-flagged blocks counted
abbrev pub reach : List Block → ℕ → ℕ
reach blocks axis = largest (map (λ b. get_or b.start axis 0 + get_or b.layout.shape axis 0) blocks)

abbrev pub joined_rows : ℕ → List Block → Layout
joined_rows r blocks = record {
  kind = 2;
  dense = blocks_d blocks;
  shape = map (reach blocks) (below r);
  rows = sorted (gather moved_rows blocks);
  states = [];
  inputs = [];
}

-- 10: D > 0 and not all are sparse; rows are counted before they turn dense, which they do if they number the product
unfoldable pub join_sparse : ℕ → List Block → Verdict Layout
join_sparse r blocks =
    lowest (10 when (ltb 0 (blocks_d blocks) && not (all is_sparse (layouts_of blocks))) ∷ [])
    then λ _. in_form dense_if_full (made (joined_rows r blocks))

unfoldable pub join_other : ℕ → List Block → Verdict Layout
join_other r blocks =
    lowest (10 when not (agree r blocks) ∷ []) then λ _.
    if (all_diagonal blocks && run_on_diagonal r blocks) (given (join_diagonal r blocks)) (join_sparse r blocks)

-- ---- the whole

-- dependencies fitted, moved, merged
unfoldable pub joined_deps : ℕ → (Layout → List (List ℕ)) → List Block → List (List ℕ)
joined_deps r deps blocks =
    sorted (gather (λ b. map (on_index (λ index. moved_by b.start (fit_to r 0 index))) (deps b.layout)) blocks)

unfoldable pub join_blocks : ℕ → List Block → Verdict Layout
join_blocks r blocks =
    lowest (10 when any (λ l. ltb r (rank l)) (layouts_of blocks) ∷ []) then λ _.
    if (all is_dense (layouts_of blocks) && run_on_first r blocks) (join_dense r blocks) (join_other r blocks) then λ l.
    made (with_deps (joined_deps r (λ x. x.states) blocks) (joined_deps r (λ x. x.inputs) blocks) l)

-- no blocks: the scalar
unfoldable pub concatenate : List Block → ℕ → Verdict Layout
concatenate blocks r = if (none blocks) (given new_scalar) (join_blocks r blocks)

-- ---- the call

unfoldable pub block_of : RawBlock → Block
block_of b = record { start = naturals b.start; zero = eqb (natural b.flag) 1; layout = layout_in b.layout }

abbrev pub good_block : RawBlock → Bool
good_block b = all good_end b.start && good_flag b.flag

unfoldable pub concatenate_call : List ℤ → ℤ → ℤ → ℕ → ℕ → Verdict Layout
concatenate_call s n r result work =
    let blocks : List RawBlock = blocks_in n r s in
    lowest
    (1 when (over_count n || over_rank r || any (λ b. over_record b.layout) blocks)
    ∷ 2 when (short_result result || short_work work)
    ∷ 3 when not (all (λ b. sound b.layout) blocks)
    ∷ 5 when not (non_neg r && all good_block blocks) ∷ [])
    then λ _. concatenate (map block_of blocks) (natural r)
