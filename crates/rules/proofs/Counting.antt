-- Positions held are as many as `nnz` says, and a lookup counts those before. Assumes nothing.
use mathlib.Core.Path.{◌≡◌, sym, ◌∙◌}
use mathlib.Core.Bool.{true}
use mathlib.Core.List.{List}
use Prim.Native.Nat.{ℕ}
use lib.ListN.{length, length-map}
use Rattle.rules.specs.RowsInOrder.{cmp_rows, is_less, increasing}
use Rattle.rules.specs.Layout.{Layout, rank}
use Rattle.rules.specs.Soundness.{WellFormed}
use Rattle.rules.specs.Endings.{found}
use Rattle.rules.specs.Lookup.{read_index, lookup}
use Rattle.rules.specs.CountsAndForms.{nnz}
use Rattle.rules.specs.Removal.{positions}
use Rattle.rules.specs.Holding.{holds, held_positions, held_before}
use Rattle.rules.proofs.Sets.{increasing_true}
use Rattle.rules.proofs.Sorting.{sorted_id}
use Rattle.rules.proofs.Ranges.{from_length}
use Rattle.rules.proofs.Indices.{positions_length}
use Rattle.rules.proofs.Before.{keep_both, count_before}
use Rattle.rules.proofs.Finding.{read_inside}
use Rattle.rules.proofs.Holding.{Position, Whole, whole_dense, whole_diagonal, whole_sparse, positions_held_increase, dense_positions, sparse_positions, diagonal_positions}
use Rattle.rules.proofs.Found.{found_at}

-- ---- how many

module _ {l : Layout} (w : WellFormed l) where
  -- of a layout that is dense or has no dense axis, `nnz` is the number of positions held
  pub nnz_counts : Whole l → nnz l ≡ length (held_positions l)
  unfolding nnz
  nnz_counts (whole_dense k) = rw (dense_positions l k, positions_length, k)
  nnz_counts (whole_diagonal k d) = rw (diagonal_positions w k d, length-map, from_length, k)
  nnz_counts (whole_sparse k d) = rw (sparse_positions w k d, w.rows_distinct, k)

  -- rows that increase are the positions held, in order
  pub rows_are_held : l.kind ≡ 2 → l.dense ≡ 0 → increasing l.rows ≡ true → l.rows ≡ held_positions l
  rows_are_held k d i = sym (sparse_positions w k d ∙ sorted_id (increasing_true l.rows i))

-- ---- how many before

module _ {l : Layout} (w : WellFormed l) (whole : Whole l) (ordered : increasing l.rows ≡ true) where
  -- a lookup gives how many positions are held before the index as it is read
  pub found_before_read : (index : List ℕ) {p : ℕ} → length index ≡ rank l → lookup l index ≡ found p → p ≡ held_before l (read_index index l.shape)
  found_before_read index {p} n e =
      let h = found_at w whole ordered index n e in
      let read = read_index index l.shape in
      rw (keep_both (holds l) (λ q. is_less (cmp_rows q read)) (positions l.shape), ← h.is) (sym (count_before (positions_held_increase l) p h.within))

  -- a lookup of a position of the shape gives how many are held before it
  pub found_before : {index : List ℕ} {p : ℕ} → Position l.shape index → lookup l index ≡ found p → p ≡ held_before l index
  found_before {index} q e = rw (read_inside index l.shape q.inside) at (found_before_read index q.size e)
