-- Blocks that agree: what they have in common, which rows they list, and how far they reach. Assumes nothing.
use mathlib.Core.Path.{◌≡◌, refl, sym, ap, ◌∙◌, subst}
use mathlib.Core.Bool.{Bool, true, false, not, ◌&&◌}
use mathlib.Core.List.Memᴰ
use mathlib.Core.List.{List, [], ◌∷◌, map, Memᴰ}
use Prim.Native.Nat.{ℕ, ◌+◌, ◌-◌, ◌<◌, ◌≤◌}
use native.Mathlib.Nat.{zero-add}
use native.Mathlib.Omega.{arith}
use borrow.Author.Tests.{eqb-true, ne_eqb, ltb-false}
use lib.Dec.{eqb, ltb}
use lib.ListN.{length, get_or, drop, length-map}
use lib.Seq.{get_or-drop}
use Rattle.rules.specs.Lists.{if, all, keep, below, all_below, same}
use Rattle.rules.specs.RowsInOrder.{Each}
use Rattle.rules.specs.Layout.{Layout, rank, is_dense, is_diagonal, is_sparse}
use Rattle.rules.specs.Soundness.{WellFormed}
use Rattle.rules.specs.Removal.{positions}
use Rattle.rules.specs.Pairs.{expanded, lowered}
use Rattle.rules.specs.Concatenate.{Block, layouts_of, shapes_of, not_dense, first_d, blocks_d, last_agree, agree, moved_by, rows_of_block, reach}
use Rattle.rules.proofs.Same.{both_true, true_not_false, same_true}
use Rattle.rules.proofs.Keeping.{keep_has}
use Rattle.rules.proofs.Tests.{all_each}
use Rattle.rules.proofs.Ranges.{from_length, from_at, map_at}
use Rattle.rules.proofs.Largest.{largest_each, largest_most}
use Rattle.rules.proofs.Indices.{positions_only}
use Rattle.rules.proofs.Listed.{lists_zero}
use Rattle.rules.proofs.Lowering.{Lowered, lowered_diagonal, lowered_is}
use Rattle.rules.proofs.Low.{below_at, at_below}
use Rattle.rules.proofs.MovedBy.{moved_by_length, moved_by_at}

-- a block with a well-formed layout and a start of r numbers
pub record FormedBlock (r : ℕ) (b : Block) : Type 0 where
  pub form : WellFormed b.layout
  pub size : length b.start ≡ r

-- every block is so
abbrev pub FormedBlocks : ℕ → List Block → Type 0
FormedBlocks r blocks = (b : Block) → Memᴰ b blocks → FormedBlock r b

-- what all layouts pass, the layout of each block does
pub of_blocks : (test : Layout → Bool) (blocks : List Block) → all test (layouts_of blocks) ≡ true → (b : Block) → Memᴰ b blocks → test b.layout ≡ true
of_blocks test blocks e b m = all_each test e b.layout (Memᴰ.map (λ c. c.layout) m)

-- ---- how far blocks reach

-- not less far than any of them
pub reach_least : {b : Block} {blocks : List Block} (k : ℕ) → Memᴰ b blocks → get_or b.start k 0 + get_or b.layout.shape k 0 ≤ reach blocks k
reach_least k m = largest_each (Memᴰ.map (λ c. get_or c.start k 0 + get_or c.layout.shape k 0) m)

-- not farther than each of them
pub reach_most : {m : ℕ} (blocks : List Block) (k : ℕ) → ((b : Block) → Memᴰ b blocks → get_or b.start k 0 + get_or b.layout.shape k 0 ≤ m) → reach blocks k ≤ m
reach_most {m} blocks k f = largest_most (map end blocks) (λ n i. let c = Memᴰ.of_map end blocks i in subst (λ (x : ℕ). x ≤ m) c.2 (f c.0 c.1))
  where
    end : Block → ℕ
    end c = get_or c.start k 0 + get_or c.layout.shape k 0

module _ (r : ℕ) (blocks : List Block) where
  -- to r extents
  pub length_reach : length (map (reach blocks) (below r)) ≡ r
  length_reach = rw (length-map, from_length)

  -- of which number k is what they reach on axis k
  pub reach_at : {k : ℕ} → k < r → get_or (map (reach blocks) (below r)) k 0 ≡ reach blocks k
  reach_at {k} h = map_at (reach blocks) (below r) k 0 0 (rw from_length h) ∙ ap (reach blocks) (from_at 0 r k 0 h ∙ zero-add k)

-- ---- what blocks that agree have in common

-- the D of the first layout not dense is at most what that of every layout is at most
pub first_low : (r : ℕ) (l : List Layout) → ((x : Layout) → Memᴰ x l → x.dense ≤ r) → first_d (keep (λ x. not (is_dense x)) l) ≤ r
unfolding keep first_d
first_low r [] h = omega arith
first_low r (x ∷ l) h = by (is_dense x) refl (first_low r l (λ y m. h y (Memᴰ.tail m)))
  where
    by : (t : Bool) → is_dense x ≡ t → first_d (keep (λ y. not (is_dense y)) l) ≤ r → first_d (keep (λ y. not (is_dense y)) (x ∷ l)) ≤ r
    by true e k = rw e k
    by false e k = rw e (h x (Memᴰ.head refl))

-- shapes whose last extents do not differ: those of any two are the same
last_same : (kept : ℕ) (shapes : List (List ℕ)) → last_agree kept shapes ≡ true → (p q : List ℕ) → Memᴰ p shapes → Memᴰ q shapes → drop kept p ≡ drop kept q
unfolding last_agree
last_same kept [] e p q m n = absurd (Memᴰ.not-nil m)
last_same kept (shape ∷ shapes) e p q m n = sym (one p m) ∙ one q n
  where
    one : (other : List ℕ) → Memᴰ other (shape ∷ shapes) → drop kept shape ≡ drop kept other
    one other (Memᴰ.head d) = ap (drop kept) (sym d)
    one other (Memᴰ.tail i) = same_true (all_each (λ u. same (drop kept shape) (drop kept u)) e other i)

-- a block that is not sparse, where nothing bars rows: there is no dense axis
pub no_axis : (blocks : List Block) → ltb 0 (blocks_d blocks) && not (all is_sparse (layouts_of blocks)) ≡ false → (b : Block) → Memᴰ b blocks → is_sparse b.layout ≡ false → blocks_d blocks ≡ 0
no_axis blocks bare b m e = by (ltb 0 (blocks_d blocks)) (all is_sparse (layouts_of blocks)) refl refl bare
  where
    by : (s t : Bool) → ltb 0 (blocks_d blocks) ≡ s → all is_sparse (layouts_of blocks) ≡ t → s && not t ≡ false → blocks_d blocks ≡ 0
    by true true f g h = absurd (true_not_false (of_blocks is_sparse blocks g b m) e)
    by true false f g h = cc
    by false t f g h = let past = ltb-false 0 (blocks_d blocks) f in omega arith

module _ (r : ℕ) (blocks : List Block) (a : agree r blocks ≡ true) where
  -- all ranks are the asked one
  pub rank_one : (b : Block) → Memᴰ b blocks → rank b.layout ≡ r
  unfolding agree
  rank_one b m =
      let ranks = (both_true (all (λ l. eqb l.dense (blocks_d blocks)) (not_dense blocks)) (all (λ l. eqb (rank l) r) (layouts_of blocks)) (both_true _ _ a).0).1 in
      eqb-true (rank b.layout) r (of_blocks (λ l. eqb (rank l) r) blocks ranks b m)

  -- blocks not dense have one D
  pub dense_one : (b : Block) → Memᴰ b blocks → is_dense b.layout ≡ false → b.layout.dense ≡ blocks_d blocks
  unfolding agree
  dense_one b m e =
      let ones = (both_true (all (λ l. eqb l.dense (blocks_d blocks)) (not_dense blocks)) (all (λ l. eqb (rank l) r) (layouts_of blocks)) (both_true _ _ a).0).0 in
      eqb-true b.layout.dense (blocks_d blocks)
      (all_each (λ l. eqb l.dense (blocks_d blocks)) ones b.layout (keep_has (λ l. not (is_dense l)) (Memᴰ.map (λ c. c.layout) m) (rw e)))

  -- the last D extents are those of every block
  pub last_one : (b c : Block) → Memᴰ b blocks → Memᴰ c blocks → (k : ℕ) → r - blocks_d blocks ≤ k → get_or b.layout.shape k 0 ≡ get_or c.layout.shape k 0
  unfolding agree
  last_one b c m n k h =
      let kept : ℕ = r - blocks_d blocks in
      let at : kept + (k - kept) ≡ k = omega arith in
      let lasts = last_same kept (shapes_of blocks) (both_true (all (λ l. eqb l.dense (blocks_d blocks)) (not_dense blocks) && all (λ l. eqb (rank l) r) (layouts_of blocks)) (last_agree kept (shapes_of blocks)) a).1 b.layout.shape c.layout.shape (Memᴰ.map (λ x. x.layout.shape) m) (Memᴰ.map (λ x. x.layout.shape) n) in
      rw at at (sym (get_or-drop kept b.layout.shape (k - kept) 0) ∙ ap (λ (t : List ℕ). get_or t (k - kept) 0) lasts ∙ get_or-drop kept c.layout.shape (k - kept) 0)

  module _ (p : FormedBlocks r blocks) where
    -- D is not above the rank
    pub d_low : blocks_d blocks ≤ r
    d_low = first_low r (layouts_of blocks) one
      where
        one : (x : Layout) → Memᴰ x (layouts_of blocks) → x.dense ≤ r
        one x i =
            let k = Memᴰ.of_map (λ (b : Block). b.layout) blocks i in
            subst (λ (y : Layout). y.dense ≤ r) k.2 (omega (arith, (p k.0 k.1).form.dense_most, rank_one k.0 k.1))

    -- a row of R - D numbers, below the extents of its block
    abbrev pub RowIn : Layout → List ℕ → Type 0
    RowIn l row = (length row ≡ r - blocks_d blocks) × (all_below row l.shape ≡ true)

    -- such are the rows that a block lists
    pub rows_in : ltb 0 (blocks_d blocks) && not (all is_sparse (layouts_of blocks)) ≡ false → (b : Block) → Memᴰ b blocks → Each (RowIn b.layout) (rows_of_block b.layout)
    rows_in bare b m = by (is_dense l) (is_diagonal l) refl refl
      where
        l : Layout
        l = b.layout

        by : (s t : Bool) → is_dense l ≡ s → is_diagonal l ≡ t → Each (RowIn l) (if s (positions l.shape) (if t (expanded l).rows l.rows))
        by true t f g row i =
            let none = no_axis blocks bare b m (ne_eqb l.kind 2 (λ z. omega (arith, eqb-true l.kind 0 f))) in
            let q = positions_only l.shape i in
            (omega (arith, q.0, rank_one b m), q.1)
        by false true f g row i =
            let kind : l.kind ≡ 1 = eqb-true l.kind 1 g in
            let none : blocks_d blocks ≡ 0 = no_axis blocks bare b m (ne_eqb l.kind 2 (λ z. omega arith)) in
            let axes : l.dense ≡ 0 = dense_one b m f ∙ none in
            let w : Lowered l (lowered l 0) 0 = lowered_is (p b m).form (λ z. omega arith) (omega arith) (rw (g, axes)) (lists_zero l refl) in
            let same : lowered l 0 ≡ expanded l = lowered_diagonal l 0 kind in
            let q = subst (λ (x : Layout). Each (λ u. length u ≡ rank l - 0) x.rows) same w.row_lengths row i in
            (omega (arith, q, rank_one b m), subst (λ (x : Layout). Each (λ u. all_below u l.shape ≡ true) x.rows) same w.rows_lie_below row i)
        by false false f g row i =
            let axes = dense_one b m f in
            let q = (p b m).form.row_lengths row i in
            (omega (arith, q, axes, rank_one b m), (p b m).form.rows_lie_below row i)

-- ---- an index of a block, moved by its start

-- it is below what the blocks reach
pub moved_in : {r : ℕ} {b : Block} {blocks : List Block} → Memᴰ b blocks → rank b.layout ≡ r → (index : List ℕ) → length index ≤ r → all_below index b.layout.shape ≡ true →
    all_below (moved_by b.start index) (map (reach blocks) (below r)) ≡ true
moved_in {r} {b} {blocks} m e index n q = at_below (moved_by b.start index) (map (reach blocks) (below r)) (λ k h. one k (rw (moved_by_length b.start index) at h))
  where
    one : (k : ℕ) → k < length index → get_or (moved_by b.start index) k 0 < get_or (map (reach blocks) (below r)) k 0
    one k h =
        let at = moved_by_at b.start index k h in
        let under = below_at index b.layout.shape q k h (omega arith) in
        omega (arith, reach_at r blocks {k = k} (omega arith), at, under, reach_least k m)
