-- What `union` and `intersect` make of a layout that is not dense: its rows with the smaller D, which hold the same. Assumes nothing.
use mathlib.Core.Path.{◌≡◌, refl, sym, ap, ◌∙◌}
use mathlib.Core.Bool.{Bool, true, false}
use mathlib.Core.List.Memᴰ
use mathlib.Core.List.{List, [], ◌∷◌, ◌++◌, Memᴰ}
use Prim.Native.Nat.{ℕ, zero, suc, ◌-◌, ◌≤◌, ◌<◌}
use native.Mathlib.Nat.{sub-zero}
use native.Mathlib.Omega.{arith}
use borrow.Author.Tests.{lt-ltb, le-ltb, ltb-false, not-false}
use lib.Dec.{ltb}
use lib.ListN.{length, get_or, take, drop, replicate, take-append-drop, length-append, length-drop, length-replicate}
use lib.Seq.{take_at, take_all}
use Rattle.rules.specs.Lists.{if, none, below, all_below}
use Rattle.rules.specs.RowsInOrder.{sorted, In, Each}
use Rattle.rules.specs.Layout.{Layout, rank, width, is_diagonal, few}
use Rattle.rules.specs.Soundness.{WellFormed}
use Rattle.rules.specs.Removal.{positions, kept_axes, crossed, full_rows, removed_rows, lists_row, remove_dense_axes}
use Rattle.rules.specs.Pairs.{lowered, bars_expansion, expanded}
use Rattle.rules.proofs.Order.{ComparedNumbers, under, even, above, compare_numbers}
use Rattle.rules.proofs.Same.{both_true, decided}
use Rattle.rules.proofs.Sets.{in_same, each_nil}
use Rattle.rules.proofs.Tests.{true_both, none_true}
use Rattle.rules.proofs.Soundness.{OneKind, dense_case, diagonal_case, sparse_case, one_kind}
use Rattle.rules.proofs.Ranges.{from_only, map_increasing}
use Rattle.rules.proofs.Indices.{positions_increasing, positions_only}
use Rattle.rules.specs.Holding.{holds}
use Rattle.rules.proofs.Holding.{Position, position_in, position_behind, holds_position, sparse_true, true_sparse, whole_front, holds_in, in_holds, diagonal_rows, diagonal_rank, diagonal_extents, diagonal_positions}
use Rattle.rules.proofs.Alike.{alike_all, replicate_below, replicate_less}
use Rattle.rules.proofs.Once.{Once, once_nil, increasing_once, distinct_once, once_distinct, crossed_only, crossed_has, crossed_once}

-- ---- what is made, by cases

module _ (l : Layout) where
  -- a diagonal that may expand has no dense axis
  pub expands_dense : l.kind ≡ 1 → bars_expansion l ≡ false → l.dense ≡ 0
  expands_dense k e = omega (arith, ltb-false 0 l.dense (rw k at e))

  -- a diagonal expands
  pub lowered_diagonal : (d : ℕ) → l.kind ≡ 1 → lowered l d ≡ expanded l
  unfolding lowered
  lowered_diagonal d k = rw k

  -- a sparse layout with that D stays
  pub lowered_same : {d : ℕ} → l.kind ≡ 2 → l.dense ≡ d → lowered l d ≡ l
  unfolding lowered
  lowered_same {d} k e = rw (k, le-ltb d l.dense (omega arith))

  -- of a sparse layout with a larger D axes are removed
  pub lowered_removed : {d : ℕ} → l.kind ≡ 2 → d < l.dense → lowered l d ≡ remove_dense_axes l d
  unfolding lowered
  lowered_removed {d} k h = rw (k, lt-ltb d l.dense h)

  -- all of them: each row gets every index of the dense axes
  pub removed_all : removed_rows l 0 ≡ full_rows l
  unfolding removed_rows
  removed_all = rw sub-zero

  -- some of them: no row is listed
  pub removed_none : {d : ℕ} → 0 < d → d < l.dense → lists_row l d ≡ false → removed_rows l d ≡ []
  unfolding lists_row
  removed_none {d} g h e = none_true (not-false (none (removed_rows l d)) (rw (lt-ltb 0 d g, lt-ltb d l.dense h) at e))

-- ---- the rows that are made, by cases

module _ (l : Layout) where
  -- of a diagonal: the positions (i,..,i)
  pub diagonal_made : (d : ℕ) → l.kind ≡ 1 → (lowered l d).rows ≡ diagonal_rows l
  unfolding expanded
  diagonal_made d k = rw (lowered_diagonal l d k)

  -- of a sparse layout with that D: its own
  pub same_made : {d : ℕ} → l.kind ≡ 2 → l.dense ≡ d → (lowered l d).rows ≡ l.rows
  same_made k e = rw (lowered_same l k e)

  -- with no dense axis left: each row with every index of the dense axes
  pub full_made : {d : ℕ} → l.kind ≡ 2 → d < l.dense → d ≡ 0 → (lowered l d).rows ≡ full_rows l
  unfolding remove_dense_axes
  full_made k h z = rw (lowered_removed l k h, z) (removed_all l)

  -- with some left: none
  pub none_made : {d : ℕ} → l.kind ≡ 2 → d < l.dense → 0 < d → lists_row l d ≡ false → (lowered l d).rows ≡ []
  unfolding remove_dense_axes
  none_made k h g e = rw (lowered_removed l k h) (removed_none l g h e)

-- ---- it holds what was held

module _ {l : Layout} (w : WellFormed l) where
  -- an expanded diagonal holds what the diagonal does
  expanded_holds : l.kind ≡ 1 → l.dense ≡ 0 → (index : List ℕ) → holds (expanded l) index ≡ holds l index
  unfolding expanded
  expanded_holds k z index = decided (holds (expanded l) index) (holds l index) there back
    where
      there : holds (expanded l) index ≡ true → holds l index ≡ true
      there h =
          let on = sparse_true (expanded l) index refl h in
          in_holds l (rw (diagonal_positions w k z, ← whole_front l z on.0) on.1)

      back : holds l index ≡ true → holds (expanded l) index ≡ true
      back h =
          let p = holds_position l index h in
          true_sparse (expanded l) index refl p (rw (whole_front l z p, ← diagonal_positions w k z) (holds_in l h))

  -- a held position: its row, and from any axis on one of the indices of the axes there
  behind_row : {index : List ℕ} (k : ℕ) → Position l.shape index → In (take (width l) index) l.rows →
      In (take (width l) index ++ drop k index) (crossed l.rows (positions (drop k l.shape)))
  behind_row k p m = crossed_has m (position_in (position_behind p k))

  -- with every dense axis removed a sparse layout holds what it did
  full_holds : l.kind ≡ 2 → (index : List ℕ) → holds (remove_dense_axes l 0) index ≡ holds l index
  unfolding remove_dense_axes
  full_holds k index = decided (holds (remove_dense_axes l 0) index) (holds l index) there back
    where
      all_of : Position l.shape index → take (rank l - 0) index ≡ index
      all_of p = take_all (rank l - 0) index (omega arith)

      there : holds (remove_dense_axes l 0) index ≡ true → holds l index ≡ true
      there h =
          let on = sparse_true (remove_dense_axes l 0) index k h in
          let c = crossed_only l.rows (positions (drop (width l) l.shape)) (rw (removed_all l, all_of on.0) at on.1) in
          let front : take (width l) index ≡ c.row = ap (take (width l)) c.is ∙ take_at c.row c.end (width l) (w.row_lengths c.row c.row_in) in
          true_sparse l index k on.0 (in_same front c.row_in)

      back : holds l index ≡ true → holds (remove_dense_axes l 0) index ≡ true
      back h =
          let on = sparse_true l index k h in
          true_sparse (remove_dense_axes l 0) index k on.0
          (rw (removed_all l, all_of on.0) (rw take-append-drop at (behind_row (width l) on.0 on.1)))

  -- if no row is listed, nothing was held
  bare_holds : (d : ℕ) → l.kind ≡ 2 → removed_rows l d ≡ [] → (index : List ℕ) → holds (remove_dense_axes l d) index ≡ holds l index
  unfolding remove_dense_axes removed_rows
  bare_holds d k e index = decided (holds (remove_dense_axes l d) index) (holds l index) there back
    where
      there : holds (remove_dense_axes l d) index ≡ true → holds l index ≡ true
      there h = absurd (Memᴰ.not-nil (rw e at (sparse_true (remove_dense_axes l d) index k h).1))

      back : holds l index ≡ true → holds (remove_dense_axes l d) index ≡ true
      back h =
          let on = sparse_true l index k h in
          absurd (Memᴰ.not-nil (rw e at (behind_row (kept_axes l d) on.0 on.1)))

-- ---- the layout that is made

-- what holds of a layout, of it expanded and of it with dense axes removed holds of it lowered
pub lowered_such : (P : Layout → Type 0) (l : Layout) (d : ℕ) → P l → P (expanded l) → P (remove_dense_axes l d) → P (lowered l d)
unfolding lowered
lowered_such P l d p q r = go (is_diagonal l) (ltb d l.dense)
  where
    go : (s t : Bool) → P (if s (expanded l) (if t (remove_dense_axes l d) l))
    go true t = q
    go false true = r
    go false false = p

-- x is sparse with D as asked and the shape of l, and holds what l does; its rows have R - D numbers below the extents, and none
-- comes again
pub record Lowered (l x : Layout) (d : ℕ) : Type 0 where
  pub kind_is : x.kind ≡ 2
  pub dense_is : x.dense ≡ d
  pub shape_is : x.shape ≡ l.shape
  pub row_lengths : Each (λ r. length r ≡ rank l - d) x.rows
  pub rows_lie_below : Each (λ r. all_below r l.shape ≡ true) x.rows
  pub rows_once : Once x.rows
  pub holds_same : (index : List ℕ) → holds x index ≡ holds l index

-- numbers below the first extents, and behind them numbers below the next ones
append_below : (r t shape : List ℕ) → all_below r shape ≡ true → all_below t (drop (length r) shape) ≡ true → all_below (r ++ t) shape ≡ true
unfolding all_below
append_below [] t shape e f = f
append_below (c ∷ r) t [] e f = refl
append_below (c ∷ r) t (n ∷ shape) e f =
    let h = both_true (ltb c n) (all_below r shape) e in
    true_both h.0 (append_below r t shape h.1 f)

module _ {l : Layout} (w : WellFormed l) where
  -- a diagonal with no dense axis expands so
  expanded_lowered : l.kind ≡ 1 → l.dense ≡ 0 → Lowered l (expanded l) 0
  unfolding expanded
  expanded_lowered k z = record {
    kind_is = refl;
    dense_is = z;
    shape_is = refl;
    row_lengths = λ r m. rw sub-zero (sym (ap length (of r m).2) ∙ length-replicate (rank l) (of r m).0);
    rows_lie_below = λ r m. rw (← (of r m).2) (below_extents (of r m).0 (omega (arith, from_only 0 (get_or l.shape 0 0) (of r m).1)));
    rows_once = increasing_once (map_increasing (λ i. replicate (rank l) i) (replicate_less (rank l) (diagonal_rank w k z)) 0 (get_or l.shape 0 0));
    holds_same = expanded_holds w k z;
  }
    where
      of : (r : List ℕ) → In r (diagonal_rows l) → (i : ℕ) × Memᴰ i (below (get_or l.shape 0 0)) × (replicate (rank l) i ≡ r)
      of r m = Memᴰ.of_map (λ i. replicate (rank l) i) (below (get_or l.shape 0 0)) m

      below_extents : (i : ℕ) → i < get_or l.shape 0 0 → all_below (replicate (rank l) i) l.shape ≡ true
      below_extents i = replicate_below (rank l) (get_or l.shape 0 0) i l.shape (alike_all l.shape (diagonal_extents w k z))

  -- a sparse layout is so with the D that it has
  sparse_lowered : l.kind ≡ 2 → Lowered l l l.dense
  sparse_lowered k = record {
    kind_is = k;
    dense_is = refl;
    shape_is = refl;
    row_lengths = w.row_lengths;
    rows_lie_below = w.rows_lie_below;
    rows_once = distinct_once l.rows w.rows_distinct;
    holds_same = λ index. refl;
  }

  -- a sparse layout is so with every dense axis removed
  full_lowered : l.kind ≡ 2 → Lowered l (remove_dense_axes l 0) 0
  unfolding remove_dense_axes
  full_lowered k = record {
    kind_is = k;
    dense_is = refl;
    shape_is = refl;
    row_lengths = rw (removed_all l) sizes;
    rows_lie_below = rw (removed_all l) inside;
    rows_once = rw (removed_all l) (crossed_once (width l) w.row_lengths (distinct_once l.rows w.rows_distinct) (increasing_once (positions_increasing (drop (width l) l.shape))));
    holds_same = full_holds w k;
  }
    where
      sizes : Each (λ r. length r ≡ rank l - 0) (full_rows l)
      sizes r m =
          let k = crossed_only l.rows (positions (drop (width l) l.shape)) m in
          let front = w.row_lengths k.row k.row_in in
          let back = (positions_only (drop (width l) l.shape) k.end_in).0 in
          rw (k.is, length-append, front, back, length-drop) (omega arith)

      inside : Each (λ r. all_below r l.shape ≡ true) (full_rows l)
      inside r m =
          let k = crossed_only l.rows (positions (drop (width l) l.shape)) m in
          let front = w.row_lengths k.row k.row_in in
          let back = (positions_only (drop (width l) l.shape) k.end_in).1 in
          rw k.is (append_below k.row k.end l.shape (w.rows_lie_below k.row k.row_in) (rw front back))

  -- a sparse layout is so with some dense axes removed, if that lists no row
  bare_lowered : {d : ℕ} → l.kind ≡ 2 → removed_rows l d ≡ [] → Lowered l (remove_dense_axes l d) d
  unfolding remove_dense_axes
  bare_lowered {d} k e = record {
    kind_is = k;
    dense_is = refl;
    shape_is = refl;
    row_lengths = rw e (each_nil _);
    rows_lie_below = rw e (each_nil _);
    rows_once = rw e once_nil;
    holds_same = bare_holds w d k e;
  }

  -- a layout that is not dense is lowered so, if nothing bars it
  pub lowered_is : {d : ℕ} → (l.kind ≡ 0 → ⊥) → d ≤ l.dense → bars_expansion l ≡ false → lists_row l d ≡ false → Lowered l (lowered l d) d
  lowered_is {d} n h e f = by (one_kind w)
    where
      removed : {d : ℕ} → l.kind ≡ 2 → d < l.dense → lists_row l d ≡ false → Lowered l (remove_dense_axes l d) d
      removed {d = zero} k s g = full_lowered k
      removed {d = suc d} k s g = bare_lowered k (removed_none l (omega arith) s g)

      sparse : l.kind ≡ 2 → ComparedNumbers d l.dense → Lowered l (lowered l d) d
      sparse k (under s) = rw (lowered_removed l k s) (removed k s f)
      sparse k (even s) = rw (lowered_same l k (sym s), s) (sparse_lowered k)
      sparse k (above s) = absurd (omega arith)

      by : OneKind l → Lowered l (lowered l d) d
      by (dense_case k) = absurd (n k)
      by (diagonal_case k) =
          let z : l.dense ≡ 0 = expands_dense l k e in
          let zero-too : d ≡ 0 = omega arith in
          rw (lowered_diagonal l d k, zero-too) (expanded_lowered k z)
      by (sparse_case k) = sparse k (compare_numbers d l.dense)

-- its rows are few where they are few sorted
pub lowered_few : {l x : Layout} {d : ℕ} → Lowered l x d → few (sorted x.rows) ≡ few x.rows
lowered_few p = rw (once_distinct p.rows_once)
