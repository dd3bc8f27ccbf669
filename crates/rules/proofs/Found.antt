-- What a lookup finds is held, and what is held is found. Assumes nothing.
use mathlib.Core.Path.{◌≡◌, sym, ◌∙◌}
use mathlib.Core.Bool.{true}
use mathlib.Core.List.{List, []}
use Prim.Native.Nat.{ℕ, ◌<◌}
use native.Mathlib.Nat.{zero-add}
use native.Mathlib.Omega.{arith}
use lib.Dec.{eqb}
use lib.ListN.{length, get_or, take, replicate, length-map}
use Rattle.rules.specs.Lists.{all, below}
use Rattle.rules.specs.RowsInOrder.{increasing, among}
use Rattle.rules.specs.Layout.{Layout, rank, width, alike}
use Rattle.rules.specs.Soundness.{WellFormed}
use Rattle.rules.specs.Endings.{found}
use Rattle.rules.specs.Positions.{ravel_index}
use Rattle.rules.specs.Lookup.{read_index, lookup}
use Rattle.rules.specs.Holding.{is_position, holds, held_positions}
use Rattle.rules.proofs.Same.{both_true}
use Rattle.rules.proofs.Sets.{in_same, among_in, in_among, increasing_true}
use Rattle.rules.proofs.Sorting.{sorted_id}
use Rattle.rules.proofs.Places.{in_at}
use Rattle.rules.proofs.Tests.{true_both}
use Rattle.rules.proofs.Soundness.{OneKind, dense_case, diagonal_case, sparse_case, one_kind}
use Rattle.rules.proofs.Ranges.{from_length, from_at, map_at}
use Rattle.rules.proofs.Indices.{positions_length, ravel_below, positions_ravel}
use Rattle.rules.proofs.Alike.{all_replicate, alike_all}
use Rattle.rules.proofs.Finding.{read_inside, read_length, read_alike, first_below, place_at, place_has, if_found, lookup_below, found_inside, place_dense, place_diagonal, place_sparse}
use Rattle.rules.proofs.Holding.{Position, true_position, holds_position, holds_diagonal, holds_sparse, Whole, whole_dense, whole_diagonal, whole_sparse, whole_front, in_holds, dense_positions, sparse_positions, diagonal_rank, diagonal_extents, diagonal_positions}

-- ---- what is found stands at its place among the positions held

-- position p of those that are held is the index
pub record HeldAt (l : Layout) (index : List ℕ) (p : ℕ) : Type 0 where
  pub within : p < length (held_positions l)
  pub is : get_or (held_positions l) p [] ≡ index

-- a position of those that are held is held
at_holds : {l : Layout} {index : List ℕ} {p : ℕ} → HeldAt l index p → holds l index ≡ true
at_holds {l} {index} {p} h = rw (← h.is) (in_holds l (in_at (held_positions l) p h.within))

module _ {l : Layout} (w : WellFormed l) (index : List ℕ) {p : ℕ} (n : length index ≡ rank l) (e : lookup l index ≡ found p) where
  -- the index as it is read
  abbrev read : List ℕ
  read = read_index index l.shape

  -- it is a position of the shape
  found_position : Position l.shape read
  found_position = record { size = read_length index l.shape ∙ n; inside = (found_inside l index e).0 }

  -- dense: the index as it is read is position p of those held
  dense_found : l.kind ≡ 0 → HeldAt l read p
  dense_found k =
      let h = found_position in
      let number : p ≡ ravel_index read l.shape = cc ((found_inside l index e).1, place_dense l index read k) in
      record {
        within = rw (number, dense_positions l k, positions_length) (ravel_below read l.shape h.size h.inside);
        is = rw (number, dense_positions l k) (positions_ravel read l.shape h.size h.inside);
      }

  -- diagonal: the index is read as it is, and is (p,..,p)
  diagonal_is : l.kind ≡ 1 → l.dense ≡ 0 → (read ≡ index) × (index ≡ replicate (rank l) p) × (p < get_or l.shape 0 0)
  diagonal_is k d =
      let t = if_found (all (eqb (get_or read 0 0)) index) (sym (place_diagonal l index read k) ∙ (found_inside l index e).1) in
      let axes = diagonal_rank w k d in
      let under : p < get_or l.shape 0 0 = omega (arith, t.1, first_below read l.shape (rw (read_length, n) axes) axes found_position.inside) in
      let equal : all (eqb p) index ≡ true = rw t.1 at t.0 in
      (read_alike p (get_or l.shape 0 0) index l.shape equal (alike_all l.shape (diagonal_extents w k d)) under, rw (← n) (all_replicate p index equal), under)

  -- diagonal: the index is position p of those held
  diagonal_found : l.kind ≡ 1 → l.dense ≡ 0 → HeldAt l read p
  diagonal_found k d =
      let h = diagonal_is k d in
      let extent : ℕ = get_or l.shape 0 0 in
      record {
        within = rw (diagonal_positions w k d, length-map, from_length) h.2;
        is = rw (diagonal_positions w k d, map_at (λ i. replicate (rank l) i) (below extent) p 0 [] (rw from_length h.2), from_at 0 extent p 0 h.2, zero-add) (sym (h.0 ∙ h.1));
      }

  -- sparse: the first R - D components as they are read are row p
  sparse_is : l.kind ≡ 2 → (p < length l.rows) × (get_or l.rows p [] ≡ take (width l) read)
  sparse_is k = place_at (take (width l) read) l.rows (sym (place_sparse l index read k) ∙ (found_inside l index e).1)

  -- sparse, of rows that increase: the index as it is read is position p of those held
  sparse_found : l.kind ≡ 2 → l.dense ≡ 0 → increasing l.rows ≡ true → HeldAt l read p
  sparse_found k d i =
      let h = sparse_is k in
      let rows : held_positions l ≡ l.rows = sparse_positions w k d ∙ sorted_id (increasing_true l.rows i) in
      record { within = rw rows h.0; is = rw rows (h.1 ∙ whole_front l d found_position) }

-- what is found is the index as it is read, at its place among the positions held
pub found_at : {l : Layout} → WellFormed l → Whole l → increasing l.rows ≡ true → (index : List ℕ) {p : ℕ} → length index ≡ rank l →
    lookup l index ≡ found p → HeldAt l (read_index index l.shape) p
found_at w (whole_dense k) i index n e = dense_found w index n e k
found_at w (whole_diagonal k d) i index n e = diagonal_found w index n e k d
found_at w (whole_sparse k d) i index n e = sparse_found w index n e k d i

-- ---- found and held: of every layout but a diagonal with dense axes

-- only a diagonal with no dense axis
abbrev pub FlatIfDiagonal : Layout → Type 0
FlatIfDiagonal l = l.kind ≡ 1 → l.dense ≡ 0

-- what is found is held, as it is read
pub found_holds_read : {l : Layout} → WellFormed l → FlatIfDiagonal l → (index : List ℕ) {p : ℕ} → length index ≡ rank l →
    lookup l index ≡ found p → holds l (read_index index l.shape) ≡ true
found_holds_read {l} w flat index {p} n e = by (one_kind w)
  where
    read : List ℕ
    read = read_index index l.shape

    by : OneKind l → holds l read ≡ true
    by (dense_case k) = at_holds (dense_found w index n e k)
    by (diagonal_case k) = at_holds (diagonal_found w index n e k (flat k))
    by (sparse_case k) =
        let h = sparse_is w index n e k in
        holds_sparse l read k ∙ true_both (true_position (found_position w index n e)) (in_among (in_same (sym h.1) (in_at l.rows p h.0)))

-- a position of the shape that is found is held
pub found_holds : {l : Layout} → WellFormed l → FlatIfDiagonal l → {index : List ℕ} {p : ℕ} → Position l.shape index →
    lookup l index ≡ found p → holds l index ≡ true
found_holds {l} w flat {index} q e = rw (read_inside index l.shape q.inside) at (found_holds_read w flat index q.size e)

-- a position that is held is found
pub holds_found : {l : Layout} → WellFormed l → FlatIfDiagonal l → (index : List ℕ) → holds l index ≡ true → (p : ℕ) × (lookup l index ≡ found p)
holds_found {l} w flat index h = by (one_kind w)
  where
    q : Position l.shape index
    q = holds_position l index h

    by : OneKind l → (p : ℕ) × (lookup l index ≡ found p)
    by (dense_case k) = (ravel_index index l.shape, lookup_below l index q.inside ∙ place_dense l index index k)
    by (diagonal_case k) =
        let on = both_true (is_position l.shape index) (alike (take (width l) index)) (sym (holds_diagonal l index k) ∙ h) in
        let equal : alike index ≡ true = rw (whole_front l (flat k) q) at on.1 in
        (get_or index 0 0, lookup_below l index q.inside ∙ place_diagonal l index index k ∙ rw (alike_all index equal))
    by (sparse_case k) =
        let on = both_true (is_position l.shape index) (among (take (width l) index) l.rows) (sym (holds_sparse l index k) ∙ h) in
        let place = place_has (among_in (take (width l) index) l.rows on.1) 0 in
        (place.0, lookup_below l index q.inside ∙ place_sparse l index index k ∙ place.1)

-- what is found on a diagonal is held as it is
pub found_on_diagonal : {l : Layout} → WellFormed l → l.kind ≡ 1 → l.dense ≡ 0 → (index : List ℕ) {p : ℕ} → length index ≡ rank l →
    lookup l index ≡ found p → holds l index ≡ true
found_on_diagonal w k d index n e = rw (diagonal_is w index n e k d).0 at (at_holds (diagonal_found w index n e k d))
