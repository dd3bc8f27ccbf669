-- The tests of soundness, each as it is put to the slice of a readable record. Assumes nothing.
use mathlib.Core.Path.{◌≡◌, refl, sym, ◌∙◌}
use mathlib.Core.Bool.{Bool, true, ◌&&◌}
use mathlib.Core.List.{List, [], ◌∷◌}
use Prim.Native.Nat.{ℕ, zero, suc, ◌+◌, ◌*◌, ◌≤◌}
use native.Mathlib.Omega.{arith}
use borrow.Author.Tests.{le-leb, eq-eqb}
use lib.Dec.{eqb, leb}
use lib.IntN.{ℤ}
use lib.ListN.{length, get_or, take}
use lib.Seq.{take-take}
use Rattle.rules.specs.declared.Head.{Head}
use Rattle.rules.specs.Lists.{all, none, all_below}
use Rattle.rules.specs.Buffers.{part}
use Rattle.rules.specs.RowsInOrder.{increasing, Each}
use Rattle.rules.specs.Layout.{rank, width, few, alike, row_fits, diagonal_fits, deps_fit, deps_small}
use Rattle.rules.proofs.Sets.{each_head, each_tail}
use Rattle.rules.proofs.Buffers.{length_part}
use Rattle.rules.proofs.Same.{one_test}
use Rattle.rules.proofs.Tests.{none_counted, each_all}
use Rattle.cells.specs.View.{view}
use Rattle.cells.proofs.View.{view_length}
use Rattle.tables.specs.Rows.{rows_at}
use Rattle.tables.proofs.Rows.{length_rows, rows_wide}
use Rattle.records.specs.Judging.{Readable, below, rows_below, small, small_dep, small_deps}
use Rattle.records.proofs.Layouts.{seen, Bounds, bounds, axes}

-- ---- tests of all rows

-- two tests that agree on every row
all_agree : (f g : List ℕ → Bool) (t : List (List ℕ)) → Each (λ r. f r ≡ g r) t → all f t ≡ all g t
unfolding all
all_agree f g [] e = refl
all_agree f g (r ∷ t) e = rw (each_head e, all_agree f g t (each_tail e))

-- further extents do not matter to a row
below_front : (w : ℕ) (r es : List ℕ) → length r ≤ w → all_below r es ≡ all_below r (take w es)
unfolding all_below
below_front w [] es h = refl
below_front zero (c ∷ r) es h = absurd (omega arith)
below_front (suc w) (c ∷ r) [] h = refl
below_front (suc w) (c ∷ r) (e ∷ es) h = rw (← below_front w r es (omega arith))

-- ---- the tests, put to the slice

module _ {h : Head} {s : List ℤ} (p : Readable h s) where
  -- where its sections lie
  b : Bounds h s
  b = bounds p

  -- the rank
  rank_seen : rank (seen h s) ≡ h.rank
  rank_seen = length_part 3 h.rank (view s) (rw view_length (omega (arith, b)))

  -- the width of the rows
  width_seen : width (seen h s) ≡ h.width
  width_seen = let r = rank_seen in let e = axes p in omega arith

  -- D is at most the rank
  pub dense_within : leb (get_or (view s) 1 0) (rank (seen h s)) ≡ true
  dense_within = let r = rank_seen in let e = axes p in le-leb (get_or (view s) 1 0) (rank (seen h s)) (omega arith)

  -- the rank is at most 4
  pub rank_within : leb (rank (seen h s)) 4 ≡ true
  rank_within = let r = rank_seen in le-leb (rank (seen h s)) 4 (omega (arith, b))

  -- every axis is dense where the rows have no width
  pub all_dense : eqb (get_or (view s) 1 0) (rank (seen h s)) ≡ eqb h.width 0
  all_dense =
      let r = rank_seen in
      let e = axes p in
      one_test (get_or (view s) 1 0) (rank (seen h s)) h.width 0 (λ u. omega arith) (λ u. omega arith)

  -- the extents of the rows' axes
  front_extents : take h.width (part 3 h.rank (view s)) ≡ part 3 h.width (view s)
  unfolding part
  front_extents = let n = b.narrow in rw take-take

  -- what a diagonal layout asks of them
  pub diagonal_seen : diagonal_fits (seen h s) ≡ leb 1 h.width && alike (part 3 h.width (view s))
  diagonal_seen = rw (width_seen, front_extents)

  -- there are no rows
  pub no_rows : none (seen h s).rows ≡ eqb h.rows.count 0
  no_rows = none_counted (seen h s).rows ∙ rw length_rows

  -- the rows fit
  pub rows_seen : all (row_fits (seen h s)) (seen h s).rows ≡ rows_below h.rows.first h.width h.rows.count s
  rows_seen = all_agree (row_fits (seen h s)) (below h.width s) (seen h s).rows agree
    where
      agree : Each (λ r. row_fits (seen h s) r ≡ below h.width s r) (seen h s).rows
      agree r m =
          let l : length r ≡ h.width = rows_wide h.rows.first h.width h.rows.count s (omega (arith, b)) r m in
          let e : length r ≡ width (seen h s) = l ∙ sym width_seen in
          rw (eq-eqb (length r) (width (seen h s)) e) (below_front h.width r (part 3 h.rank (view s)) (omega arith) ∙ rw front_extents)

  module _ (a n : ℕ) (i : a + n * (h.rank + 1) ≤ length s) where
    -- dependencies have R + 1 numbers each, so that only their order counts
    pub deps_seen : deps_fit (seen h s) (rows_at a (h.rank + 1) n s) ≡ increasing (rows_at a (h.rank + 1) n s)
    deps_seen = rw (each_all (λ d. eqb (length d) (suc (rank (seen h s)))) (rows_at a (h.rank + 1) n s) wide)
      where
        wide : Each (λ d. eqb (length d) (suc (rank (seen h s))) ≡ true) (rows_at a (h.rank + 1) n s)
        wide r m =
            let l = rows_wide a (h.rank + 1) n s i r m in
            let e = rank_seen in
            eq-eqb (length r) (suc (rank (seen h s))) (omega arith)

    -- their components are small
    pub deps_small_lem : deps_small (seen h s) (rows_at a (h.rank + 1) n s) ≡ small_deps a h.rank n s
    unfolding small_deps
    deps_small_lem = all_agree (λ d. all small (take (rank (seen h s)) d)) (small_dep h.rank) (rows_at a (h.rank + 1) n s) (λ d m. rw rank_seen)

  -- there are few of them
  pub few_seen : (a w n : ℕ) → n ≤ 128 → few (rows_at a w n s) ≡ true
  few_seen a w n l = let e = length_rows a w n s in le-leb (length (rows_at a w n s)) 128 (omega arith)
