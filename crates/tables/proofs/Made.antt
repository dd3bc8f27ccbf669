-- Tables that were made are ready to be read, searched and made others of. Assumes nothing.
use mathlib.Core.Path.{◌≡◌, sym, ◌∙◌}
use mathlib.Core.Bool.{Bool, true}
use mathlib.Core.List.{List, [], ◌++◌}
use Prim.Native.Nat.{ℕ, ◌+◌, ◌≤◌}
use native.Mathlib.Omega.{arith}
use borrow.Author.Tests.{leb-true}
use lib.IntN.{ℤ, pos}
use lib.ListN.{length, set, length-set}
use Rattle.rules.specs.RowsInOrder.{insert, merge, among, Each, Increasing, increasing_nil}
use Rattle.rules.proofs.Sets.{each_nil, each_append}
use Rattle.rules.proofs.Sorting.{insert_each, insert_increasing, sorted_each, sorted_increasing, sorted_length}
use Rattle.rules.proofs.Keeping.{keep_only, keep_increasing, keep_length}
use Rattle.cells.specs.View.{Low}
use Rattle.tables.specs.Tables.{table_at, room_end, Ready, Put, SortAsked, Sorted, PairAsked, Merged, CommonRows}
use Rattle.tables.proofs.Rows.{rows_none}
use Rattle.tables.proofs.Tables.{table_length, count_stored}

-- a table is ready if its rows are few, low and increase
pub made_ready : {at w : ℕ} {t : List ℤ} {rows : List (List ℕ)} → room_end at w ≤ length t → table_at at w t ≡ rows → length rows ≤ 128 → Each Low rows → Increasing rows → Ready at w t
made_ready {at} {w} {t} room e few low i = record {
  fits = record { room = room; few = rw (← table_length at w t, e) few; low = rw e low };
  increasing = rw e i;
}

-- a count of 0 makes an empty table
pub emptied : (at w : ℕ) (s : List ℤ) → room_end at w ≤ length s → table_at at w (set s at (pos 0)) ≡ []
emptied at w s h = count_stored at w 0 s (omega arith) ∙ rows_none (at + 1) w s

-- it is ready
pub emptied_ready : (at w : ℕ) (s : List ℤ) → room_end at w ≤ length s → Ready at w (set s at (pos 0))
emptied_ready at w s h = made_ready (rw length-set h) (emptied at w s h) (omega arith) (each_nil Low) increasing_nil

-- a table that took a row
pub put_ready : {at w : ℕ} {row : List ℕ} {s t : List ℤ} {r : Bool} → Ready at w s → Low row → Put at w row s t r → r ≡ true → Ready at w t
put_ready {at} {w} {row} {s} g low p e =
    made_ready (rw p.only.size g.fits.room) (p.table e) (leb-true (length (insert row (table_at at w s))) 128 (sym p.verdict ∙ e))
    (insert_each row low g.fits.low) (insert_increasing row g.increasing)

-- a table that was sorted
pub sorted_ready : {from to w : ℕ} {s t : List ℤ} → SortAsked from to w s → Sorted from to w s t → Ready to w t
sorted_ready {from} {w} {s} a p =
    let rows = table_at from w s in
    made_ready (rw p.only.size a.target) p.table (omega (arith, sorted_length rows, table_length from w s, a.source.few))
    (sorted_each a.source.low) (sorted_increasing rows)

module _ {x y to w : ℕ} {s t : List ℤ} (a : PairAsked x y to w s) where
  -- a table of two that were merged
  pub merged_ready : {r : Bool} → Merged x y to w s t r → r ≡ true → Ready to w t
  merged_ready p e =
      let rows = merge (table_at x w s) (table_at y w s) in
      made_ready (rw p.only.size a.target) (p.table e) (leb-true (length rows) 128 (sym p.verdict ∙ e))
      (sorted_each (each_append a.first.fits.low a.second.fits.low)) (sorted_increasing (table_at x w s ++ table_at y w s))

  -- a table of the common rows of two
  pub common_ready : CommonRows x y to w s t → Ready to w t
  common_ready p =
      let rows = table_at x w s in
      let test : List ℕ → Bool = λ r. among r (table_at y w s) in
      made_ready (rw p.only.size a.target) p.table (omega (arith, keep_length test rows, table_length x w s, a.first.fits.few))
      (λ r m. a.first.fits.low r (keep_only test rows r m)) (keep_increasing test a.first.increasing)
