-- Which positions a layout holds, by its kind. Assumes nothing.
use mathlib.Core.Path.{◌≡◌, refl, sym, ◌∙◌}
use mathlib.Core.Bool.{true, ◌&&◌, and-true}
use mathlib.Core.List.{List, [], ◌∷◌, map, Memᴰ}
use Prim.Native.Nat.{ℕ, zero, suc, ◌<◌, ◌≤◌}
use native.Mathlib.Omega.{arith}
use borrow.Author.Tests.{eqb-true, eq-eqb, lt-ltb}
use lib.Dec.{eqb, ltb}
use lib.ListN.{length, get_or, take, drop, replicate, length-drop, length-replicate}
use lib.Seq.{take-length, take_all}
use Rattle.rules.specs.Lists.{below, all_below}
use Rattle.rules.specs.RowsInOrder.{among, sorted, In, Increasing}
use Rattle.rules.specs.Layout.{Layout, rank, width, alike}
use Rattle.rules.specs.Soundness.{WellFormed}
use Rattle.rules.specs.Dependencies.{held, on_diagonal}
use Rattle.rules.specs.Removal.{positions}
use Rattle.rules.specs.Holding.{is_position, holds, held_positions}
use Rattle.rules.proofs.Same.{both_true}
use Rattle.rules.proofs.Sets.{in_same, among_in, in_among, Subset, same_rows}
use Rattle.rules.proofs.Sorting.{sorted_increasing, sorted_has, sorted_only}
use Rattle.rules.proofs.Keeping.{keep_passes, keep_has, keep_increasing}
use Rattle.rules.proofs.Tests.{true_both}
use Rattle.rules.proofs.Soundness.{OneKind, dense_case, diagonal_case, sparse_case, one_kind, whole_width}
use Rattle.rules.proofs.Ranges.{from_only, from_has, map_increasing}
use Rattle.rules.proofs.Indices.{positions_increasing, positions_only, positions_has}
use Rattle.rules.proofs.Before.{keep_all}
use Rattle.rules.proofs.Alike.{alike_all, alike_replicate, replicate_alike, replicate_below, replicate_less}
use Rattle.rules.proofs.Finding.{first_below}

-- ---- a position of a shape

-- a component for each axis, below its extent
pub record Position (shape index : List ℕ) : Type 0 where
  pub size : length index ≡ length shape
  pub inside : all_below index shape ≡ true

-- what tests as a position is one
pub position_true : (shape index : List ℕ) → is_position shape index ≡ true → Position shape index
position_true shape index e =
    let h = both_true (eqb (length index) (length shape)) (all_below index shape) e in
    record { size = eqb-true (length index) (length shape) h.0; inside = h.1 }

module _ {shape index : List ℕ} where
  -- a position tests so
  pub true_position : Position shape index → is_position shape index ≡ true
  true_position p = true_both (eq-eqb (length index) (length shape) p.size) p.inside

  -- a position is one of the positions
  pub position_in : Position shape index → In index (positions shape)
  position_in p = positions_has index shape p.size p.inside

-- each of the positions is one
pub in_position : (shape : List ℕ) {index : List ℕ} → In index (positions shape) → Position shape index
in_position shape m = let h = positions_only shape m in record { size = h.0; inside = h.1 }

-- components from k on are below the extents from k on
drop_below : (index shape : List ℕ) (k : ℕ) → all_below index shape ≡ true → all_below (drop k index) (drop k shape) ≡ true
unfolding all_below
drop_below index shape zero b = b
drop_below [] shape (suc k) b = refl
drop_below (c ∷ index) [] (suc k) b = below_none (drop k index)
  where
    below_none : (rest : List ℕ) → all_below rest [] ≡ true
    below_none [] = refl
    below_none (c ∷ rest) = refl
drop_below (c ∷ index) (e ∷ shape) (suc k) b = drop_below index shape k (both_true (ltb c e) (all_below index shape) b).1

-- from any axis on, a position is one of the axes there
pub position_behind : {shape index : List ℕ} → Position shape index → (k : ℕ) → Position (drop k shape) (drop k index)
position_behind {shape} {index} p k = record { size = simp length-drop (omega arith); inside = drop_below index shape k p.inside }

-- ---- what is held

module _ (l : Layout) (index : List ℕ) where
  -- only positions of the shape are held
  pub holds_position : holds l index ≡ true → Position l.shape index
  unfolding holds
  holds_position e = position_true l.shape index (both_true (is_position l.shape index) _ e).0

  -- a dense layout holds every position
  pub holds_dense : l.kind ≡ 0 → holds l index ≡ is_position l.shape index
  unfolding holds
  holds_dense k = rw k (and-true (is_position l.shape index))

  -- a diagonal layout holds the positions whose first R - D components are equal
  pub holds_diagonal : l.kind ≡ 1 → holds l index ≡ is_position l.shape index && alike (take (width l) index)
  unfolding holds
  holds_diagonal k = rw k

  -- a sparse layout holds the positions whose first R - D components are a row
  pub holds_sparse : l.kind ≡ 2 → holds l index ≡ is_position l.shape index && among (take (width l) index) l.rows
  unfolding holds
  holds_sparse k = rw k

  -- what a sparse layout holds is a position, and its first R - D components are a row
  pub sparse_true : l.kind ≡ 2 → holds l index ≡ true → Position l.shape index × In (take (width l) index) l.rows
  sparse_true k h =
      let on = both_true (is_position l.shape index) (among (take (width l) index) l.rows) (sym (holds_sparse k) ∙ h) in
      (position_true l.shape index on.0, among_in (take (width l) index) l.rows on.1)

  -- such a position is held
  pub true_sparse : l.kind ≡ 2 → Position l.shape index → In (take (width l) index) l.rows → holds l index ≡ true
  true_sparse k p m = holds_sparse k ∙ true_both (true_position p) (in_among m)

-- ---- layouts whose positions are listed whole

-- dense, or with no dense axis
pub data Whole (l : Layout) : Type 0 where
  whole_dense : l.kind ≡ 0 → Whole l
  whole_diagonal : l.kind ≡ 1 → l.dense ≡ 0 → Whole l
  whole_sparse : l.kind ≡ 2 → l.dense ≡ 0 → Whole l

-- a well-formed layout with no dense axis is so
pub no_dense_whole : {l : Layout} → WellFormed l → l.dense ≡ 0 → Whole l
no_dense_whole {l} w d = by (one_kind w)
  where
    by : OneKind l → Whole l
    by (dense_case k) = whole_dense k
    by (diagonal_case k) = whole_diagonal k d
    by (sparse_case k) = whole_sparse k d

-- with no dense axis the first R - D components are all of them
pub whole_front : (l : Layout) → l.dense ≡ 0 → {index : List ℕ} → Position l.shape index → take (width l) index ≡ index
whole_front l d {index} p = take_all (width l) index (omega arith)

module _ {l : Layout} (w : WellFormed l) (k : l.kind ≡ 1) (d : l.dense ≡ 0) where
  -- a diagonal layout with no dense axis has at least one axis
  pub diagonal_rank : 1 ≤ rank l
  diagonal_rank = rw (whole_width w d) at (w.diagonal_wide k)

  -- a diagonal layout with no dense axis has equal extents
  pub diagonal_extents : alike l.shape ≡ true
  diagonal_extents = rw (whole_width w d, take-length) at (w.diagonal_alike k)

module _ (l : Layout) (index : List ℕ) where
  -- `filter_deps` takes for held, of a dense layout, what is below its extents
  held_dense : l.kind ≡ 0 → held l index ≡ all_below index l.shape
  unfolding held
  held_dense k = rw k

  -- of a diagonal layout, what is on the diagonal
  held_diagonal : l.kind ≡ 1 → held l index ≡ on_diagonal l index
  unfolding held
  held_diagonal k = rw k

  -- of a sparse layout, its rows
  held_sparse : l.kind ≡ 2 → held l index ≡ among index l.rows
  unfolding held
  held_sparse k = rw k

-- on positions of the shape, such a layout holds what `filter_deps` takes for held
pub holds_held : {l : Layout} → WellFormed l → Whole l → {index : List ℕ} → Position l.shape index → holds l index ≡ held l index
holds_held {l} w (whole_dense k) {index} p = holds_dense l index k ∙ true_position p ∙ sym (held_dense l index k ∙ p.inside)
holds_held {l} w (whole_diagonal k d) {index} p =
    let axes = diagonal_rank w k d in
    let first = first_below index l.shape (omega arith) axes p.inside in
    holds_diagonal l index k
    ∙ (rw (true_position p, whole_front l d p, held_diagonal l index k, lt-ltb (get_or index 0 0) (get_or l.shape 0 0) first) (sym (and-true (alike index))))
holds_held {l} w (whole_sparse k d) {index} p = holds_sparse l index k ∙ (rw (true_position p, whole_front l d p)) ∙ sym (held_sparse l index k)

-- ---- the positions held

module _ (l : Layout) where
  -- they increase
  pub positions_held_increase : Increasing (held_positions l)
  positions_held_increase = keep_increasing (holds l) (positions_increasing l.shape)

  -- what is held is one of them
  pub holds_in : {index : List ℕ} → holds l index ≡ true → In index (held_positions l)
  holds_in {index} h = keep_has (holds l) (position_in (holds_position l index h)) h

  -- each of them is held
  pub in_holds : {index : List ℕ} → In index (held_positions l) → holds l index ≡ true
  in_holds {index} m = keep_passes (holds l) (positions l.shape) index m

  -- a dense layout holds all positions
  pub dense_positions : l.kind ≡ 0 → held_positions l ≡ positions l.shape
  dense_positions k = keep_all (holds l) (positions l.shape) (λ q m. holds_dense l q k ∙ true_position (in_position l.shape m))

module _ {l : Layout} (w : WellFormed l) (k : l.kind ≡ 2) (d : l.dense ≡ 0) where
  -- a sparse layout with no dense axis holds its rows, in order
  pub sparse_positions : held_positions l ≡ sorted l.rows
  sparse_positions = same_rows (positions_held_increase l) (sorted_increasing l.rows) listed found
    where
      listed : Subset (held_positions l) (sorted l.rows)
      listed q m = let on = sparse_true l q k (in_holds l m) in sorted_has (in_same (sym (whole_front l d on.0)) on.1)

      found : Subset (sorted l.rows) (held_positions l)
      found r m =
          let n = sorted_only l.rows m in
          let p : Position l.shape r = record { size = w.row_lengths r n ∙ whole_width w d; inside = w.rows_lie_below r n } in
          holds_in l (true_sparse l r k p (in_same (whole_front l d p) n))

-- ---- a diagonal

-- the positions (i,..,i)
abbrev pub diagonal_rows : Layout → List (List ℕ)
diagonal_rows l = map (λ i. replicate (rank l) i) (below (get_or l.shape 0 0))

-- a position is held by a diagonal with no dense axis if its components are equal
pub held_alike : (l : Layout) → l.kind ≡ 1 → l.dense ≡ 0 → {q : List ℕ} → Position l.shape q → holds l q ≡ alike q
held_alike l k d {q} p = holds_diagonal l q k ∙ (rw (true_position p, whole_front l d p))

module _ {l : Layout} (w : WellFormed l) (k : l.kind ≡ 1) (d : l.dense ≡ 0) where
  -- each (i,..,i) below the first extent is held
  replicate_held : (i : ℕ) → i < get_or l.shape 0 0 → holds l (replicate (rank l) i) ≡ true
  replicate_held i h =
      let inside = replicate_below (rank l) (get_or l.shape 0 0) i l.shape (alike_all l.shape (diagonal_extents w k d)) h in
      held_alike l k d (record { size = length-replicate (rank l) i; inside = inside }) ∙ replicate_alike (rank l) i

  -- a diagonal layout with no dense axis holds the positions (i,..,i)
  pub diagonal_positions : held_positions l ≡ diagonal_rows l
  diagonal_positions = same_rows (positions_held_increase l) (map_increasing (λ i. replicate (rank l) i) (replicate_less (rank l) axes) 0 extent) listed found
    where
      axes : 1 ≤ rank l
      axes = diagonal_rank w k d

      extent : ℕ
      extent = get_or l.shape 0 0

      listed : Subset (held_positions l) (diagonal_rows l)
      listed q m =
          let h = in_holds l m in
          let p = holds_position l q h in
          let first = first_below q l.shape (omega (arith, axes)) axes p.inside in
          let i : Memᴰ (get_or q 0 0) (below extent) = from_has 0 extent (omega arith) (omega arith) in
          in_same (rw (← p.size) (alike_replicate q (sym (held_alike l k d p) ∙ h))) (mathlib.Core.List.Memᴰ.map (λ i. replicate (rank l) i) i)

      found : Subset (diagonal_rows l) (held_positions l)
      found r m =
          let p = mathlib.Core.List.Memᴰ.of_map (λ i. replicate (rank l) i) (below extent) m in
          rw (← p.2) (holds_in l (replicate_held p.0 (omega (arith, from_only 0 extent p.1))))
