-- `rows_fit` and `small_deps`: the rows of a section put to a test. Assumes nothing.
use Rattle.std.specs.Prelude.{None, Some}
use mathlib.Core.Path.{◌≡◌, sym, ◌∙◌}
use mathlib.Core.Bool.{Bool, true, false, not, and-true, and-false}
use mathlib.Core.List.{List}
use Prim.Native.Nat.{ℕ, ◌+◌, ◌*◌, ◌<◌, ◌≤◌}
use native.Mathlib.Omega.{arith}
use borrow.Author.Tests.{not-true, not-false}
use lib.IntN.{ℤ}
use lib.Seq.{take-take}
use Rattle.rules.specs.declared.Entries.{Entries}
use Rattle.rules.specs.Lists.{all}
use Rattle.rules.specs.Buffers.{part}
use Rattle.rules.specs.RowsInOrder.{increasing}
use Rattle.rules.specs.Layout.{distinct}
use Rattle.cells.specs.View.{view}
use Rattle.tables.specs.Rows.{row_at, rows_at, HasRows}
use Rattle.tables.proofs.Different.{increasing_differ}
use Rattle.tables.proofs.Passing.{Passed, all_passed, rows_start, rows_more, rows_fail}
use Rattle.axes.specs.Extents.{Extents}
use Rattle.axes.specs.Numbers.{RowsInside}
use Rattle.records.specs.Judging.{rows_below, rows_fit, fit_of, small, small_dep, small_deps}
use Rattle.records.proofs.Fits.{unfit}

-- ---- small components of dependencies

module _ (a rank n : ℕ) (s : List ℤ) {i : ℕ} (p : Passed (small_dep rank) n i (rows_at a (rank + 1) n s)) where
  -- a dependency's components stand before its number
  components : (b : ℕ) → all small (part b rank (view s)) ≡ small_dep rank (row_at b (rank + 1) s)
  unfolding part
  components b = let h : rank ≤ rank + 1 = omega arith in rw (take-take rank (rank + 1))

  module _ {t : Bool} (h : i < n) (e : t ≡ all small (part (a + i * (rank + 1)) rank (view s))) where
    -- those of dependency i are small
    pub deps_more : not t ≡ false → Passed (small_dep rank) n (i + 1) (rows_at a (rank + 1) n s)
    deps_more q = rows_more a (rank + 1) n s p h (e ∙ components (a + i * (rank + 1))) q

    -- one of them is not
    pub deps_fail : not t ≡ true → false ≡ small_deps a rank n s
    unfolding small_deps
    deps_fail q = rows_fail a (rank + 1) n s p h (e ∙ components (a + i * (rank + 1))) q

  -- all are
  pub all_small : n ≤ i → true ≡ small_deps a rank n s
  unfolding small_deps
  all_small h = all_passed p h

pub ruleset smalls = (rows_start, deps_more, deps_fail, all_small)

-- ---- all rows below the extents, and different

module _ (e : Entries) (w : ℕ) (s : List ℤ) {t : Bool} (p : t ≡ rows_below e.first w e.count s) where
  abbrev rows : List (List ℕ)
  rows = rows_at e.first w e.count s

  -- a row is outside
  pub row_outside : not t ≡ true → None ≡ fit_of (rows_fit e w s) (increasing rows)
  unfolding rows_fit
  row_outside f = unfit _ (increasing rows) (sym (rw (← p, not-true t f) (and-false (distinct rows))))

  module _ (f : not t ≡ false) where
    -- all rows are inside
    pub rows_inside : HasRows e.first w e.count s → Extents 3 w s → RowsInside e.first 3 w e.count s s
    rows_inside r x = record { rows = r; extents = x; inside = sym p ∙ not-false t f }

    -- whether they differ decides
    fit_is : rows_fit e w s ≡ distinct rows
    unfolding rows_fit
    fit_is = rw (← p, not-false t f) (and-true (distinct rows))

    module _ {u : Bool} (q : u ≡ increasing rows) where
      -- they increase
      pub rows_increase_lem : u ≡ true → (Some true) ≡ fit_of (rows_fit e w s) (increasing rows)
      unfolding fit_of
      rows_increase_lem g = rw (fit_is, ← increasing_differ rows q g, ← q, g)

      module _ {v : Bool} (d : v ≡ distinct rows) where
        -- they are in no order
        pub rows_mixed : u ≡ false → v ≡ true → (Some false) ≡ fit_of (rows_fit e w s) (increasing rows)
        unfolding fit_of
        rows_mixed g h = rw (fit_is, ← d, h, ← q, g)

        -- two are the same
        pub row_twice : v ≡ false → None ≡ fit_of (rows_fit e w s) (increasing rows)
        row_twice h = unfit _ (increasing rows) (sym (fit_is ∙ sym d ∙ h))

pub ruleset fits = (row_outside, rows_inside, rows_increase_lem, rows_mixed, row_twice)
