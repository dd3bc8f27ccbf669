-- What is made of joined blocks: when it is refused with 12, and when with 13. Assumes nothing.
use mathlib.Core.Path.{◌≡◌, refl, sym, ap, ◌∙◌}
use mathlib.Core.Bool.{Bool, true, false, not, ◌&&◌, ◌||◌}
use mathlib.Core.List.{List, [], ◌∷◌, map, Memᴰ}
use Prim.Native.Nat.{ℕ, zero, suc, ◌-◌, ◌<◌, ◌≤◌}
use native.Mathlib.Nat.{zero-add}
use native.Mathlib.Omega.{arith}
use borrow.Author.Tests.{eqb-true, ne_eqb, lt-leb}
use lib.Dec.{eqb, ltb}
use lib.ListN.{length, get_or, take, length-map, length-append, length-drop, length-take}
use lib.Seq.{get_or-take}
use Rattle.rules.specs.Limits.{rank_limit}
use Rattle.rules.specs.Lists.{if, all, gather, sum, below, all_below, fit_to}
use Rattle.rules.specs.RowsInOrder.{sorted, Each}
use Rattle.rules.specs.Refusals.{refused}
use Rattle.rules.specs.Layout.{Layout, rank, width, is_diagonal, is_sparse, with_deps, made}
use Rattle.rules.specs.Soundness.{DepsFit, WellFormed}
use Rattle.rules.specs.Dependencies.{index_of, on_index}
use Rattle.rules.specs.CountsAndForms.{dense}
use Rattle.rules.specs.Concatenate.{Block, layouts_of, shapes_of, joined_shape, blocks_d, agree, all_diagonal, join_diagonal, moved_by, rows_of_block, moved_rows, reach, joined_rows, joined_deps}
use Rattle.rules.proofs.Sets.{each_nil}
use Rattle.rules.proofs.Tests.{all_at}
use Rattle.rules.proofs.Alike.{alike_at, at_alike}
use Rattle.rules.proofs.Ranges.{from_length, from_at, map_at}
use Rattle.rules.proofs.Replaced.{fit_length}
use Rattle.rules.proofs.Gathering.{gather_each}
use Rattle.rules.proofs.Sorting.{sorted_increasing, sorted_each, sorted_sorted}
use Rattle.rules.proofs.Changed.{each_map}
use Rattle.rules.proofs.Made.{sized_or, form_made}
use Rattle.rules.proofs.Forming.{bad_diagonal_made}
use Rattle.rules.proofs.MovedBy.{moved_by_length}
use Rattle.rules.proofs.Blocks.{FormedBlocks, of_blocks, rank_one, dense_one, d_low, rows_in, length_reach, moved_in}

-- ---- dependencies

-- a layout with the dependencies of all blocks
abbrev pub joined_full : ℕ → List Block → Layout → Layout
joined_full r blocks l = with_deps (joined_deps r (λ x. x.states) blocks) (joined_deps r (λ x. x.inputs) blocks) l

-- a dependency whose index gets n numbers has n and its number
changed_length : (f : List ℕ → List ℕ) (d : List ℕ) (n : ℕ) → ((i : List ℕ) → length (f i) ≡ n) → 0 < length d → length (on_index f d) ≡ suc n
unfolding on_index
changed_length f d n g h = rw (length-append, length-drop, g (index_of d)) (omega arith)

module _ {r : ℕ} {blocks : List Block} (p : FormedBlocks r blocks) where
  -- a dependency of joined ones has r components and its number
  joined_lengths : (deps : Layout → List (List ℕ)) → ((l : Layout) → WellFormed l → Each (λ d. length d ≡ suc (rank l)) (deps l)) → Each (λ d. length d ≡ suc r) (joined_deps r deps blocks)
  unfolding joined_deps
  joined_lengths deps f =
      sorted_each (gather_each (λ b. map (on_index (λ index. moved_by b.start (fit_to r 0 index))) (deps b.layout))
      (λ b m. each_map (λ d. length d ≡ suc r) (on_index (λ index. moved_by b.start (fit_to r 0 index)))
      (λ d e. changed_length (λ index. moved_by b.start (fit_to r 0 index)) d r (λ i. moved_by_length b.start (fit_to r 0 i) ∙ fit_length r 0 i) (omega arith))
      (f b.layout (p b m).form)))

  -- so they fit a layout of the asked rank
  joined_fit : (l : Layout) → rank l ≡ r → (deps : Layout → List (List ℕ)) → ((x : Layout) → WellFormed x → Each (λ d. length d ≡ suc (rank x)) (deps x)) → DepsFit l (joined_deps r deps blocks)
  unfolding joined_deps
  joined_fit l e deps f = record { lengths = rw e (joined_lengths deps f); increase = sorted_increasing _ }

  -- those on states do
  pub states_joined : (l : Layout) → rank l ≡ r → DepsFit l (joined_deps r (λ x. x.states) blocks)
  states_joined l e = joined_fit l e (λ x. x.states) (λ x s. s.states_fit.lengths)

  -- those on inputs do
  pub inputs_joined : (l : Layout) → rank l ≡ r → DepsFit l (joined_deps r (λ x. x.inputs) blocks)
  inputs_joined l e = joined_fit l e (λ x. x.inputs) (λ x s. s.inputs_fit.lengths)

  -- so a well-formed layout of that rank is well formed with them
  pub form_joined : (l : Layout) → rank l ≡ r → WellFormed l → WellFormed (joined_full r blocks l)
  form_joined l e f = record {
    kind_most = f.kind_most;
    dense_most = f.dense_most;
    rank_most = f.rank_most;
    sparse_rows = f.sparse_rows;
    rows_distinct = f.rows_distinct;
    row_lengths = f.row_lengths;
    rows_lie_below = f.rows_lie_below;
    dense_all = f.dense_all;
    diagonal_wide = f.diagonal_wide;
    diagonal_alike = f.diagonal_alike;
    states_fit = let s = states_joined l e in record { lengths = s.lengths; increase = s.increase };
    inputs_fit = let s = inputs_joined l e in record { lengths = s.lengths; increase = s.increase };
  }

-- without rows and dependencies there is nothing to fit
pub no_deps_lem : (l : Layout) → DepsFit l []
unfolding sorted
no_deps_lem l = record { lengths = each_nil _; increase = sorted_increasing [] }

-- ---- dense

-- a dense join has the asked rank
pub length_dense : (r : ℕ) (blocks : List Block) → length (joined_shape r blocks) ≡ r
length_dense zero blocks = refl
length_dense (suc r) blocks = rw (ne_eqb (suc r) 0 (λ e. omega arith), length-map, from_length) (omega arith)

module _ (r : ℕ) (blocks : List Block) (few : r ≤ rank_limit) where
  -- it is well formed
  pub dense_form : WellFormed (dense (joined_shape r blocks))
  unfolding dense sorted
  dense_form = record {
    kind_most = omega arith;
    dense_most = omega arith;
    rank_most = omega (arith, length_dense r blocks);
    sparse_rows = λ _. refl;
    rows_distinct = refl;
    row_lengths = each_nil _;
    rows_lie_below = each_nil _;
    dense_all = λ _. refl;
    diagonal_wide = λ k. absurd (omega arith);
    diagonal_alike = λ k. absurd (omega arith);
    states_fit = no_deps_lem _;
    inputs_fit = no_deps_lem _;
  }

  -- so it is never refused with 12
  pub dense_made : FormedBlocks r blocks → made (joined_full r blocks (dense (joined_shape r blocks))) ≡ sized_or (joined_full r blocks (dense (joined_shape r blocks)))
  unfolding dense
  dense_made p = form_made (form_joined p (dense (joined_shape r blocks)) (length_dense r blocks) dense_form)

-- ---- diagonal

module _ (r : ℕ) (blocks : List Block) where
  -- a diagonal join has the asked rank
  pub length_diagonal : rank (join_diagonal r blocks) ≡ r
  length_diagonal = rw (length-map, from_length)

  -- with R - D = 0 it is refused with 12
  pub diagonal_none : r ≤ blocks_d blocks → made (joined_full r blocks (join_diagonal r blocks)) ≡ refused 12
  diagonal_none h =
      bad_diagonal_made (joined_full r blocks (join_diagonal r blocks)) refl
      (rw (length_diagonal, lt-leb 1 (r - blocks_d blocks) (omega arith)))

  module _ (a : agree r blocks ≡ true) (p : FormedBlocks r blocks) (d : all_diagonal blocks ≡ true) where
    -- the extents of a block before its D are the same
    even_block : (b : Block) → Memᴰ b blocks → (k : ℕ) → k < r - blocks_d blocks → get_or b.layout.shape k 0 ≡ get_or b.layout.shape 0 0
    even_block b m k h = by (is_diagonal b.layout) refl (of_blocks (λ l. is_diagonal l || all (eqb 1) l.shape) blocks d b m)
      where
        by : (t : Bool) → is_diagonal b.layout ≡ t → t || all (eqb 1) b.layout.shape ≡ true → get_or b.layout.shape k 0 ≡ get_or b.layout.shape 0 0
        by true e f =
            let l = b.layout in
            let kind : l.kind ≡ 1 = eqb-true l.kind 1 e in
            let axes : l.dense ≡ blocks_d blocks = dense_one r blocks a b m (ne_eqb l.kind 0 (λ z. omega arith)) in
            let wide : width l ≡ r - blocks_d blocks = rw (axes, rank_one r blocks a b m) in
            let long : k < length (take (width l) l.shape) = rw length-take (omega (arith, wide, rank_one r blocks a b m)) in
            sym (get_or-take (width l) l.shape k 0 (omega arith))
            ∙ alike_at (take (width l) l.shape) ((p b m).form.diagonal_alike kind) k long
            ∙ get_or-take (width l) l.shape 0 0 (omega arith)
        by false e f =
            let l = b.layout in
            let long = rank_one r blocks a b m in
            sym (eqb-true 1 (get_or l.shape k 0) (all_at (eqb 1) l.shape 0 f k (omega arith)))
            ∙ eqb-true 1 (get_or l.shape 0 0) (all_at (eqb 1) l.shape 0 f 0 (omega arith))

    -- so are the sums of those of all blocks
    even_sum : (k : ℕ) → k < r - blocks_d blocks → (l : List Block) → ((b : Block) → Memᴰ b l → Memᴰ b blocks) →
        sum (map (λ shape. get_or shape k 0) (shapes_of l)) ≡ sum (map (λ shape. get_or shape 0 0) (shapes_of l))
    unfolding sum
    even_sum k h [] f = refl
    even_sum k h (b ∷ l) f = rw (even_block b (f b (Memᴰ.head refl)) k h, even_sum k h l (λ c m. f c (Memᴰ.tail m)))

    -- with R - D above 0 it is well formed
    pub diagonal_form : r ≤ rank_limit → blocks_d blocks < r → WellFormed (join_diagonal r blocks)
    unfolding sorted
    diagonal_form few h = record {
      kind_most = omega arith;
      dense_most = rw length_diagonal (d_low r blocks a p);
      rank_most = rw length_diagonal few;
      sparse_rows = λ _. refl;
      rows_distinct = refl;
      row_lengths = each_nil _;
      rows_lie_below = each_nil _;
      dense_all = λ k. absurd (omega arith);
      diagonal_wide = λ _. rw length_diagonal (omega arith);
      diagonal_alike = λ _. rw length_diagonal (at_alike (extent 0) (take (r - blocks_d blocks) (map extent (below r))) same);
      states_fit = no_deps_lem _;
      inputs_fit = no_deps_lem _;
    }
      where
        extent : ℕ → ℕ
        extent axis = sum (map (λ shape. get_or shape axis 0) (shapes_of blocks))

        same : (k : ℕ) → k < length (take (r - blocks_d blocks) (map extent (below r))) → get_or (take (r - blocks_d blocks) (map extent (below r))) k 0 ≡ extent 0
        same k i =
            let inside : k < r - blocks_d blocks = omega (arith, rw (length-take, length-map, from_length) at i) in
            get_or-take (r - blocks_d blocks) (map extent (below r)) k 0 inside
            ∙ map_at extent (below r) k 0 0 (rw from_length (omega arith))
            ∙ ap extent (from_at 0 r k 0 (omega arith) ∙ zero-add k)
            ∙ even_sum k inside blocks (λ b m. m)

    -- and never refused with 12
    pub diagonal_made : r ≤ rank_limit → blocks_d blocks < r → made (joined_full r blocks (join_diagonal r blocks)) ≡ sized_or (joined_full r blocks (join_diagonal r blocks))
    diagonal_made few h = form_made (form_joined p (join_diagonal r blocks) length_diagonal (diagonal_form few h))

-- ---- by rows

module _ (r : ℕ) (blocks : List Block) (a : agree r blocks ≡ true) (p : FormedBlocks r blocks) (bare : ltb 0 (blocks_d blocks) && not (all is_sparse (layouts_of blocks)) ≡ false) where
  -- a row of R - D numbers, below the extents of the join
  abbrev RowOfJoin : List ℕ → Type 0
  RowOfJoin row = (length row ≡ r - blocks_d blocks) × (all_below row (map (reach blocks) (below r)) ≡ true)

  -- such are the moved rows of a block
  moved_rows_lem : (b : Block) → Memᴰ b blocks → Each RowOfJoin (moved_rows b)
  moved_rows_lem b m = by b.zero
    where
      by : (t : Bool) → Each RowOfJoin (if t [] (map (moved_by b.start) (rows_of_block b.layout)))
      by true = each_nil _
      by false = each_map RowOfJoin (moved_by b.start)
          (λ row q. (moved_by_length b.start row ∙ q.0, moved_in m (rank_one r blocks a b m) row (omega (arith, q.0)) q.1)) (rows_in r blocks a p bare b m)

  -- a join by rows is well formed
  pub rows_form : r ≤ rank_limit → WellFormed (joined_rows r blocks)
  rows_form few = record {
    kind_most = omega arith;
    dense_most = rw (length_reach r blocks) (d_low r blocks a p);
    rank_most = rw (length_reach r blocks) few;
    sparse_rows = λ n. absurd (n refl);
    rows_distinct = ap length (sorted_sorted (gather moved_rows blocks));
    row_lengths = rw (length_reach r blocks) (λ row i. (all_moved row i).0);
    rows_lie_below = λ row i. (all_moved row i).1;
    dense_all = λ k. absurd (omega arith);
    diagonal_wide = λ k. absurd (omega arith);
    diagonal_alike = λ k. absurd (omega arith);
    states_fit = no_deps_lem _;
    inputs_fit = no_deps_lem _;
  }
    where
      all_moved : Each RowOfJoin (sorted (gather moved_rows blocks))
      all_moved = sorted_each (gather_each moved_rows moved_rows_lem)

  -- so it is never refused with 12
  pub rows_made : r ≤ rank_limit → made (joined_rows r blocks) ≡ sized_or (joined_rows r blocks)
  rows_made few = form_made (rows_form few)
