-- What the heads of two layouts tell: their shapes, kinds and dense axes. Assumes nothing.
use mathlib.Core.Path.{◌≡◌, sym, ◌∙◌}
use mathlib.Core.Bool.{Bool, true, false, ◌&&◌}
use mathlib.Core.List.{List}
use Prim.Native.Nat.{ℕ, ◌+◌, ◌-◌, ◌<◌, ◌≤◌}
use native.Mathlib.Omega.{arith}
use borrow.Author.Tests.{eqb-true, eqb-false, ne_eqb, lt-ltb}
use lib.Dec.{eqb, ltb}
use lib.IntN.{ℤ}
use lib.ListN.{length, get_or, drop}
use Rattle.rules.specs.Lists.{same, product}
use Rattle.rules.specs.Buffers.{part}
use Rattle.rules.specs.declared.Kind.{Kind}
use Rattle.rules.specs.declared.Kind.TheVariants.{Dense, Diagonal}
use Rattle.rules.specs.Layout.{rank, is_dense, kind_of}
use Rattle.rules.specs.Removal.{lists_row}
use Rattle.rules.specs.Pairs.{alike_diagonals, lower_d, bars_expansion}
use Rattle.rules.proofs.KindRead.{dense_number, diagonal_number, not_dense, not_diagonal}
use Rattle.rules.proofs.Same.{lengths_differ}
use Rattle.rules.proofs.Listed.{lists_between, lists_zero, lists_same}
use Rattle.cells.specs.View.{view}
use Rattle.tables.proofs.Tables.{table_length}
use Rattle.parts.specs.Parts.{extents_from, rows_from, left, right, kind_at, dense_at, rank_at, layout_at, Holds, Window}
use Rattle.parts.proofs.Holds.{rank_most, rank_is}
use Rattle.lowering.specs.Lowering.{Axes, last_axes}

-- ---- shapes

module _ {s : List ℤ} (h : Window s) where
  -- ranks that differ
  pub ranks_differ : {r : Bool} → r ≡ eqb (rank_at left s) (rank_at right s) → r ≡ false → false ≡ same (layout_at left s).shape (layout_at right s).shape
  ranks_differ e f = sym (lengths_differ (layout_at left s).shape (layout_at right s).shape (λ k. eqb-false (rank_at left s) (rank_at right s) (sym e ∙ f) (sym (rank_is h.first) ∙ k ∙ rank_is h.second)))

  -- ranks that agree
  pub ranks_agree : {r : Bool} → r ≡ eqb (rank_at left s) (rank_at right s) → r ≡ true → rank_at left s ≡ rank_at right s
  ranks_agree e t = eqb-true (rank_at left s) (rank_at right s) (sym e ∙ t)

  -- the extents there
  pub extents_inside : {n : ℕ} → n ≡ rank_at left s → (left + 3 + n ≤ length s) × (right + 3 + n ≤ length s)
  extents_inside e = let m = rank_most h.first in (omega (arith, h.first.inside), omega (arith, h.second.inside))

  pub shapes_tell : {n : ℕ} {r : Bool} → n ≡ rank_at left s → rank_at left s ≡ rank_at right s → r ≡ same (part (left + extents_from) n (view s)) (part (right + extents_from) n (view s)) →
      r ≡ same (layout_at left s).shape (layout_at right s).shape
  unfolding layout_at
  shapes_tell e k t = rw (← k, ← e) t

-- ---- kinds

module _ {at : ℕ} {s : List ℤ} (h : Holds at s) where
  module _ {k : Kind} (e : k ≡ kind_of (kind_at at s)) where
    pub dense_told : k ≡ Dense → true ≡ is_dense (layout_at at s)
    unfolding layout_at
    dense_told z = rw (dense_number e z)

    pub other_told : (k ≡ Dense → ⊥) → false ≡ is_dense (layout_at at s)
    unfolding layout_at
    other_told n = rw (ne_eqb _ 0 (not_dense e n))

    -- no diagonal
    pub bars_other : (k ≡ Diagonal → ⊥) → false ≡ bars_expansion (layout_at at s)
    unfolding layout_at
    bars_other n = rw (ne_eqb _ 1 (not_diagonal e n))

    -- a diagonal with dense axes or without
    pub bars_diagonal : {d : ℕ} → k ≡ Diagonal → d ≡ dense_at at s → ltb 0 d ≡ bars_expansion (layout_at at s)
    unfolding layout_at
    bars_diagonal o f = rw (diagonal_number e o, ← f)

module _ {s : List ℤ} (both : Window s) where
  pub alike_not_first : {k : Kind} → k ≡ kind_of (kind_at left s) → (k ≡ Diagonal → ⊥) → false ≡ alike_diagonals (layout_at left s) (layout_at right s)
  unfolding layout_at
  alike_not_first e n = rw (ne_eqb _ 1 (not_diagonal e n))

  pub alike_not_second : {k l : Kind} → k ≡ kind_of (kind_at left s) → k ≡ Diagonal → l ≡ kind_of (kind_at right s) → (l ≡ Diagonal → ⊥) → false ≡ alike_diagonals (layout_at left s) (layout_at right s)
  unfolding layout_at
  alike_not_second e o f n = rw (diagonal_number e o, ne_eqb _ 1 (not_diagonal f n))

  pub alike_both : {k l : Kind} {r : Bool} → k ≡ kind_of (kind_at left s) → k ≡ Diagonal → l ≡ kind_of (kind_at right s) → l ≡ Diagonal → r ≡ eqb (dense_at left s) (dense_at right s) →
      r ≡ alike_diagonals (layout_at left s) (layout_at right s)
  unfolding layout_at
  alike_both e o f p t = rw (diagonal_number e o, diagonal_number f p) t

  -- ---- dense axes

  pub lower_first : {d e : ℕ} → d ≡ dense_at left s → e ≡ dense_at right s → d < e → d ≡ lower_d (layout_at left s) (layout_at right s)
  unfolding layout_at
  lower_first p q h = omega arith

  pub lower_second : {d e : ℕ} → d ≡ dense_at left s → e ≡ dense_at right s → e ≤ d → e ≡ lower_d (layout_at left s) (layout_at right s)
  unfolding layout_at
  lower_second p q h = omega arith

module _ (d : ℕ) {at : ℕ} {s : List ℤ} (k : Holds at s) where
  pub lists_at_zero : d ≡ 0 → false ≡ lists_row (layout_at at s) d
  lists_at_zero e = sym (lists_zero (layout_at at s) e)

  module _ {dense : ℕ} (e : dense ≡ dense_at at s) where
    pub lists_at_same : dense ≤ d → false ≡ lists_row (layout_at at s) d
    unfolding layout_at
    lists_at_same h = sym (lists_same (layout_at at s) (omega arith))

    module _ (g : d ≡ 0 → ⊥) (h : d < dense) {count : ℕ} (c : count ≡ get_or (view s) (at + rows_from) 0) where
      tell : lists_row (layout_at at s) d ≡ ltb 0 count && ltb 0 (product (drop (rank (layout_at at s) - (dense - d)) (layout_at at s).shape))
      unfolding layout_at
      tell = lists_between (layout_at at s) (omega arith) (omega arith) ∙ rw (table_length, c, e)

      pub lists_no_rows : count ≡ 0 → false ≡ lists_row (layout_at at s) d
      lists_no_rows z = rw (tell, z)

      module _ {n : ℕ} (r : n ≡ rank_at at s) where
        pub removed_axes : Axes (at + extents_from) (n - (dense - d)) n s
        unfolding layout_at
        removed_axes =
            let m = rank_most k in
            record {
              room = omega (arith, k.inside);
              upto = omega arith;
              narrow = omega arith;
              small = rw r k.sound.sizes.product_most;
            }

        pub lists_some : (count ≡ 0 → ⊥) → {size : ℕ} → size ≡ product (last_axes (at + extents_from) (n - (dense - d)) n s) → ltb 0 size ≡ lists_row (layout_at at s) d
        unfolding layout_at
        lists_some z p = rw (tell, rank_is k, ← r, lt-ltb 0 count (omega arith), p)

pub ruleset laws = (ranks_differ, ranks_agree, extents_inside, shapes_tell, dense_told, other_told, bars_other, bars_diagonal, alike_not_first, alike_not_second, alike_both, lower_first, lower_second)

pub ruleset lists_laws = (lists_at_zero, lists_at_same, lists_no_rows, removed_axes, lists_some)
