-- A sparse join holds a position exactly if an unflagged block, moved by its start, does: for blocks of every kind and any D. Assumes nothing.
use mathlib.Core.Path.{◌≡◌, refl, sym, ap, ◌∙◌}
use mathlib.Core.Bool.{Bool, true, false, not, ◌&&◌}
use mathlib.Core.List.Memᴰ
use mathlib.Core.List.{List, [], ◌∷◌, ◌++◌, map, Memᴰ}
use Prim.Native.Nat.{ℕ, ◌+◌, ◌-◌, ◌<◌, ◌≤◌}
use native.Mathlib.Omega.{arith}
use borrow.Author.Tests.{ne_eqb, not-false}
use lib.Dec.{ltb}
use lib.ListN.{length, get_or, take, drop, length-append, length-drop, get_or-append}
use lib.Seq.{get_or-take, get_or-drop, get_or-append-add, take_at, take_all, ext_get_or}
use Rattle.rules.specs.Lists.{if, all, any, none, gather, below}
use Rattle.rules.specs.RowsInOrder.{among, In}
use Rattle.rules.specs.Refusals.{given, ◌when◌}
use Rattle.rules.specs.Layout.{Layout, rank, width, is_dense, is_sparse, made}
use Rattle.rules.specs.CountsAndForms.{dense_if_full}
use Rattle.rules.specs.Removal.{positions}
use Rattle.rules.specs.Pairs.{expanded}
use Rattle.rules.specs.Holding.{holds, held_positions}
use Rattle.rules.specs.Concatenate.{Block, layouts_of, run_on_first, run_on_diagonal, join_dense, blocks_d, agree, all_diagonal, moved_by, rows_of_block, moved_rows, reach, joined_rows, join_sparse, join_other, joined_deps, join_blocks, concatenate}
use Rattle.rules.proofs.Order.{ComparedNumbers, under, even, above, compare_numbers}
use Rattle.rules.proofs.Same.{both_true, true_not_false, decided}
use Rattle.rules.proofs.Sets.{in_same, among_in, in_among}
use Rattle.rules.proofs.Sorting.{sorted_has, sorted_only}
use Rattle.rules.proofs.Gathering.{gather_only, gather_has}
use Rattle.rules.proofs.Tests.{any_true, true_any}
use Rattle.rules.proofs.Soundness.{OneKind, dense_case, diagonal_case, sparse_case, one_kind}
use Rattle.rules.proofs.Holding.{Position, true_position, position_in, holds_position, holds_dense, sparse_true, true_sparse, holds_in, in_holds, diagonal_rows, diagonal_positions}
use Rattle.rules.proofs.Low.{below_at, at_below}
use Rattle.rules.proofs.UnionHolds.{deps_hold}
use Rattle.rules.proofs.Full.{dense_if_full_holds}
use Rattle.rules.proofs.Giving.{Giving, given_such, giving_if, giving_then, giving_step, giving_unless, giving_form, giving_made}
use Rattle.rules.proofs.MovedBy.{moved_by_length, moved_by_at, moved_by_take}
use Rattle.rules.proofs.ConcatenateMade.{joined_full}
use Rattle.rules.proofs.Blocks.{FormedBlocks, rank_one, dense_one, last_one, no_axis, d_low, rows_in, reach_most, length_reach, reach_at, moved_in}

-- a block, moved by its start, holds an index; a block flagged as zero holds nothing
abbrev pub moved_holds : Block → List ℕ → Bool
moved_holds b index = not b.zero && among index (map (moved_by b.start) (held_positions b.layout))

-- every block, flagged ones too, starts at 0 on the last D of r axes
abbrev pub StartAtZero : ℕ → List Block → Type 0
StartAtZero r blocks = (b : Block) → Memᴰ b blocks → (k : ℕ) → r - blocks_d blocks ≤ k → k < r → get_or b.start k 0 ≡ 0

-- ---- what a block holds, by the rows that it lists

module _ (l : Layout) where
  -- a dense block lists every position
  rows_dense : l.kind ≡ 0 → rows_of_block l ≡ positions l.shape
  rows_dense k = rw k

  -- a diagonal one the positions (i,..,i)
  rows_diagonal : l.kind ≡ 1 → rows_of_block l ≡ diagonal_rows l
  unfolding expanded
  rows_diagonal k = rw k

  -- a sparse one its rows
  rows_sparse : l.kind ≡ 2 → rows_of_block l ≡ l.rows
  rows_sparse k = rw k

module _ (r : ℕ) (blocks : List Block) (p : FormedBlocks r blocks) (a : agree r blocks ≡ true)
    (bare : ltb 0 (blocks_d blocks) && not (all is_sparse (layouts_of blocks)) ≡ false) where
  -- the axes in front of the last D
  abbrev kept : ℕ
  kept = r - blocks_d blocks

  module _ (b : Block) (m : Memᴰ b blocks) where
    -- a block that is not sparse: there is no dense axis
    no_dense : (b.layout.kind ≡ 2 → ⊥) → blocks_d blocks ≡ 0
    no_dense f = no_axis blocks bare b m (ne_eqb b.layout.kind 2 f)

    -- so a diagonal one has none
    no_dense_of : b.layout.kind ≡ 1 → b.layout.dense ≡ 0
    no_dense_of k = dense_one r blocks a b m (ne_eqb b.layout.kind 0 (λ z. omega arith)) ∙ no_dense (λ z. omega arith)

    -- the rows of a sparse one are as long as those of the join
    sparse_width : b.layout.kind ≡ 2 → width b.layout ≡ kept
    sparse_width k = rw (rank_one r blocks a b m, dense_one r blocks a b m (ne_eqb b.layout.kind 0 (λ z. omega arith)))

    module _ (index : List ℕ) where
      -- without a dense axis a position is its own front
      all_kept : blocks_d blocks ≡ 0 → Position b.layout.shape index → take kept index ≡ index
      all_kept z q = take_all kept index (omega (arith, q.size, rank_one r blocks a b m))

      -- what a block holds begins with a row that it lists
      held_listed : holds b.layout index ≡ true → In (take kept index) (rows_of_block b.layout)
      held_listed h = by (one_kind (p b m).form)
        where
          l : Layout
          l = b.layout

          q : Position l.shape index
          q = holds_position l index h

          by : OneKind l → In (take kept index) (rows_of_block l)
          by (dense_case k) = rw (rows_dense l k) (in_same (all_kept (no_dense (λ z. omega arith)) q) (position_in q))
          by (diagonal_case k) = rw (rows_diagonal l k, ← diagonal_positions (p b m).form k (no_dense_of k)) (in_same (all_kept (no_dense (λ z. omega arith)) q) (holds_in l h))
          by (sparse_case k) = rw (rows_sparse l k, ← sparse_width k) (sparse_true l index k h).1

      -- a position that begins so is held
      listed_held : Position b.layout.shape index → In (take kept index) (rows_of_block b.layout) → holds b.layout index ≡ true
      listed_held q i = by (one_kind (p b m).form)
        where
          l : Layout
          l = b.layout

          by : OneKind l → holds l index ≡ true
          by (dense_case k) = holds_dense l index k ∙ true_position q
          by (diagonal_case k) =
              in_holds l (in_same (sym (all_kept (no_dense (λ z. omega arith)) q)) (rw (rows_diagonal l k, ← diagonal_positions (p b m).form k (no_dense_of k)) at i))
          by (sparse_case k) = true_sparse l index k q (rw (rows_sparse l k, ← sparse_width k) at i)

  -- ---- an index of the join, and the block that it comes from

  -- the extents of the join
  abbrev joined : List ℕ
  joined = map (reach blocks) (below r)

  -- a position of a block, moved by its start, is one of the join
  moved_position : {b : Block} {q : List ℕ} → Memᴰ b blocks → Position b.layout.shape q → Position joined (moved_by b.start q)
  moved_position {b} {q} m s = record {
    size = moved_by_length b.start q ∙ s.size ∙ rank_one r blocks a b m ∙ sym (length_reach r blocks);
    inside = moved_in m (rank_one r blocks a b m) q (omega (arith, s.size, rank_one r blocks a b m)) s.inside;
  }

  module _ (zeros : StartAtZero r blocks) where
    -- on a dense axis the join has the extent of every block
    dense_extent : (b : Block) → Memᴰ b blocks → (k : ℕ) → kept ≤ k → k < r → reach blocks k ≤ get_or b.layout.shape k 0
    dense_extent b m k h l = reach_most blocks k (λ c n. omega (arith, zeros c n k h l, last_one r blocks a c b n m k h))

    module _ {b : Block} (m : Memᴰ b blocks) {row index : List ℕ} (i : In row (rows_of_block b.layout)) (e : take kept index ≡ moved_by b.start row) (s : Position joined index) where
      -- the row, and behind it what the index has on the dense axes
      abbrev whole : List ℕ
      whole = row ++ drop kept index

      long : length whole ≡ r
      long = rw (length-append, length-drop) (omega (arith, (rows_in r blocks a p bare b m row i).0, s.size, length_reach r blocks, d_low r blocks a p))

      -- in front it is the row
      whole_front : (k : ℕ) → k < kept → get_or whole k 0 ≡ get_or row k 0
      whole_front k h = get_or-append row (drop kept index) 0 k (omega (arith, (rows_in r blocks a p bare b m row i).0))

      -- behind it the index
      whole_behind : (k : ℕ) → kept ≤ k → get_or whole k 0 ≡ get_or index k 0
      whole_behind k h =
          let size = (rows_in r blocks a p bare b m row i).0 in
          let at : length row + (k - kept) ≡ k = omega arith in
          let there : kept + (k - kept) ≡ k = omega arith in
          rw (at, there) at (get_or-append-add row (drop kept index) (k - kept) 0 ∙ get_or-drop kept index (k - kept) 0)

      -- it is a position of the block
      whole_position : Position b.layout.shape whole
      whole_position = record { size = long ∙ sym (rank_one r blocks a b m); inside = at_below whole b.layout.shape (λ k h. by k (rw long at h) (compare_numbers k kept)) }
        where
          behind : (k : ℕ) → k < r → kept ≤ k → get_or whole k 0 < get_or b.layout.shape k 0
          behind k h g =
              let under = below_at index joined s.inside k (omega (arith, s.size, length_reach r blocks)) (omega (arith, length_reach r blocks)) in
              omega (arith, whole_behind k g, under, reach_at r blocks {k = k} h, dense_extent b m k g h)

          by : (k : ℕ) → k < r → ComparedNumbers k kept → get_or whole k 0 < get_or b.layout.shape k 0
          by k h (under g) =
              let q = rows_in r blocks a p bare b m row i in
              omega (arith, whole_front k g, below_at row b.layout.shape q.1 k (omega (arith, q.0)) (omega (arith, rank_one r blocks a b m)))
          by k h (even g) = behind k h (omega arith)
          by k h (above g) = behind k h (omega arith)

      -- which the block holds
      whole_held : holds b.layout whole ≡ true
      whole_held = listed_held b m whole whole_position (in_same (take_at row (drop kept index) kept (rows_in r blocks a p bare b m row i).0) i)

      -- and which is moved to the index
      whole_moved : index ≡ moved_by b.start whole
      whole_moved = ext_get_or 0 index (moved_by b.start whole) (s.size ∙ length_reach r blocks ∙ sym (moved_by_length b.start whole ∙ long)) (λ k h. by k (rw (s.size, length_reach r blocks) at h) (compare_numbers k kept))
        where
          behind : (k : ℕ) → k < r → kept ≤ k → get_or index k 0 ≡ get_or (moved_by b.start whole) k 0
          behind k h g = omega (arith, moved_by_at b.start whole k (omega (arith, long)), zeros b m k g h, whole_behind k g)

          by : (k : ℕ) → k < r → ComparedNumbers k kept → get_or index k 0 ≡ get_or (moved_by b.start whole) k 0
          by k h (under g) =
              let front : get_or index k 0 ≡ get_or (moved_by b.start row) k 0 = sym (get_or-take kept index k 0 g) ∙ ap (λ (t : List ℕ). get_or t k 0) e in
              omega (arith, front, moved_by_at b.start row k (omega (arith, (rows_in r blocks a p bare b m row i).0)), moved_by_at b.start whole k (omega (arith, long)), whole_front k g)
          by k h (even g) = behind k h (omega arith)
          by k h (above g) = behind k h (omega arith)

    -- ---- the rows of all blocks

    -- they hold what the unflagged blocks hold, moved by their starts
    rows_hold : (index : List ℕ) → holds (joined_rows r blocks) index ≡ any (λ b. moved_holds b index) blocks
    rows_hold index = decided (holds (joined_rows r blocks) index) (any (λ b. moved_holds b index) blocks) there back
      where
        wide : width (joined_rows r blocks) ≡ kept
        wide = rw (length_reach r blocks)

        from : (b : Block) → Memᴰ b blocks → Position joined index → (t : Bool) → b.zero ≡ t → In (take kept index) (if t [] (map (moved_by b.start) (rows_of_block b.layout))) → moved_holds b index ≡ true
        from b m s true z i = absurd (Memᴰ.not-nil i)
        from b m s false z i =
            let q = Memᴰ.of_map (moved_by b.start) (rows_of_block b.layout) i in
            let held = Memᴰ.map (moved_by b.start) (holds_in b.layout (whole_held m q.1 (sym q.2) s)) in
            rw z (in_among (in_same (whole_moved m q.1 (sym q.2) s) held))

        there : holds (joined_rows r blocks) index ≡ true → any (λ b. moved_holds b index) blocks ≡ true
        there h =
            let on = sparse_true (joined_rows r blocks) index refl h in
            let g = gather_only moved_rows blocks (sorted_only (gather moved_rows blocks) (rw wide at on.1)) in
            true_any (λ b. moved_holds b index) g.1 (from g.0 g.1 on.0 g.0.zero refl g.2)

        listed : (b : Block) (q : List ℕ) → Memᴰ b blocks → (t : Bool) → b.zero ≡ t → not t ≡ true → holds b.layout q ≡ true → In (take kept (moved_by b.start q)) (moved_rows b)
        listed b q m true z u h = absurd (true_not_false u refl)
        listed b q m false z u h = rw (z, moved_by_take b.start q kept) (Memᴰ.map (moved_by b.start) (held_listed b m q h))

        back : any (λ b. moved_holds b index) blocks ≡ true → holds (joined_rows r blocks) index ≡ true
        back h =
            let c = any_true (λ b. moved_holds b index) blocks h in
            let b = c.0 in
            let t = both_true (not b.zero) (among index (map (moved_by b.start) (held_positions b.layout))) c.2 in
            let q = Memᴰ.of_map (moved_by b.start) (held_positions b.layout) (among_in index (map (moved_by b.start) (held_positions b.layout)) t.1) in
            let held = in_holds b.layout q.1 in
            rw (← q.2)
            (true_sparse (joined_rows r blocks) (moved_by b.start q.0) refl (moved_position c.1 (holds_position b.layout q.0 held))
            (rw wide (sorted_has (gather_has moved_rows c.1 (listed b q.0 c.1 b.zero refl t.0 held)))))

-- ---- the join

-- an answer holds what the unflagged blocks hold, moved by their starts
abbrev HoldsMoved : List Block → Layout → Type 0
HoldsMoved blocks x = (index : List ℕ) → holds x index ≡ any (λ b. moved_holds b index) blocks

module _ (r : ℕ) (blocks : List Block) (p : FormedBlocks r blocks) (zeros : StartAtZero r blocks) where
  -- a sparse join does, if it is given
  sparse_holds : agree r blocks ≡ true → Giving (HoldsMoved blocks) (join_sparse r blocks)
  unfolding join_sparse
  sparse_holds a =
      giving_unless (HoldsMoved blocks) 10 (ltb 0 (blocks_d blocks) && not (all is_sparse (layouts_of blocks))) _
      (λ bare. giving_form (HoldsMoved blocks) dense_if_full (made (joined_rows r blocks))
      (giving_made (λ l. HoldsMoved blocks (dense_if_full l)) (joined_rows r blocks)
      (λ s index. dense_if_full_holds (joined_rows r blocks) refl s.form.rows_distinct s.form.row_lengths s.form.rows_lie_below index ∙ rows_hold r blocks p a bare zeros index)))

  -- a sparse join of blocks that agree holds a position exactly if an unflagged block, moved by its start, holds it
  pub join_holds : agree r blocks ≡ true → {x : Layout} → join_sparse r blocks ≡ given x → (index : List ℕ) → holds x index ≡ any (λ b. moved_holds b index) blocks
  join_holds a = given_such (HoldsMoved blocks) (join_sparse r blocks) (sparse_holds a)

  module _ (some : none blocks ≡ false) (not_first : all is_dense (layouts_of blocks) && run_on_first r blocks ≡ false) (not-diagonal : all_diagonal blocks && run_on_diagonal r blocks ≡ false) where
    -- so does what blocks are joined to that are not all dense along the first axis
    other_holds : Giving (HoldsMoved blocks) (join_other r blocks)
    unfolding join_other
    other_holds =
        giving_unless (HoldsMoved blocks) 10 (not (agree r blocks)) _
        (λ a. giving_if (HoldsMoved blocks) (all_diagonal blocks && run_on_diagonal r blocks) _ _ (λ e. absurd (true_not_false e not-diagonal)) (λ _. sparse_holds (not-false (agree r blocks) a)))

    -- blocks, at least one, that are neither all dense along the first axis nor all diagonal along the diagonal are joined to what
    -- holds a position exactly if an unflagged block, moved by its start, holds it
    pub concatenate_holds : {x : Layout} → concatenate blocks r ≡ given x → (index : List ℕ) → holds x index ≡ any (λ b. moved_holds b index) blocks
    unfolding concatenate join_blocks
    concatenate_holds = given_such (HoldsMoved blocks) (concatenate blocks r)
        (giving_if (HoldsMoved blocks) (none blocks) _ _ (λ e. absurd (true_not_false e some))
        (λ _. giving_step (HoldsMoved blocks) (10 when any (λ l. ltb r (rank l)) (layouts_of blocks) ∷ []) _
        (giving_then (HoldsMoved blocks) (HoldsMoved blocks) (if (all is_dense (layouts_of blocks) && run_on_first r blocks) (join_dense r blocks) (join_other r blocks)) _
        (giving_if (HoldsMoved blocks) (all is_dense (layouts_of blocks) && run_on_first r blocks) _ _ (λ e. absurd (true_not_false e not_first)) (λ _. other_holds))
        (λ l h. giving_made (HoldsMoved blocks) (joined_full r blocks l)
        (λ _ index. deps_hold (joined_deps r (λ x. x.states) blocks) (joined_deps r (λ x. x.inputs) blocks) l index ∙ h index)))))

-- ---- with no dense axis

-- that blocks start at 0 on the dense axes says nothing where there is none
pub start_anywhere : (r : ℕ) (blocks : List Block) → blocks_d blocks ≡ 0 → StartAtZero r blocks
start_anywhere r blocks z b m k h l = absurd (omega arith)

module _ (r : ℕ) (blocks : List Block) (p : FormedBlocks r blocks) (z : blocks_d blocks ≡ 0) where
  -- so of a sparse join the same is held wherever its blocks start
  pub bare_join_holds : agree r blocks ≡ true → {x : Layout} → join_sparse r blocks ≡ given x → (index : List ℕ) → holds x index ≡ any (λ b. moved_holds b index) blocks
  bare_join_holds = join_holds r blocks p (start_anywhere r blocks z)

  -- and of an answer
  pub bare_concatenate_holds : none blocks ≡ false → all is_dense (layouts_of blocks) && run_on_first r blocks ≡ false → all_diagonal blocks && run_on_diagonal r blocks ≡ false →
      {x : Layout} → concatenate blocks r ≡ given x → (index : List ℕ) → holds x index ≡ any (λ b. moved_holds b index) blocks
  bare_concatenate_holds = concatenate_holds r blocks p (start_anywhere r blocks z)
