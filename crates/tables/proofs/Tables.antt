-- Tables by their counts and rows. Assumes nothing.
use mathlib.Core.Path.{◌≡◌, refl, sym, ap, ◌∙◌}
use mathlib.Core.List.{List}
use mathlib.Core.Logic.{inr}
use Prim.Native.Nat.{ℕ, ◌+◌, ◌*◌, ◌<◌, ◌≤◌}
use native.Mathlib.Nat.{add-zero, mul-le-mul_right}
use native.Mathlib.Omega.{arith}
use lib.IntN.{ℤ, pos}
use lib.ListN.{length, get_or, set}
use Rattle.rules.specs.Buffers.{part, put}
use Rattle.rules.specs.Record.{rows_of}
use Rattle.rules.specs.RowsInOrder.{Each}
use Rattle.rules.proofs.Buffers.{length_part, part_part, part_put_all}
use Rattle.cells.specs.View.{view}
use Rattle.cells.proofs.View.{stored_number}
use Rattle.tables.specs.Rows.{rows_at, HasRows}
use Rattle.tables.specs.Tables.{table_at, Fits}
use Rattle.tables.proofs.Rows.{length_rows, row_number, row_put, rows_part, rows_wide}
use Rattle.tables.proofs.Only.{only_set, rows_outside}

-- a table of n rows is the n rows behind the count
pub table_rows : (at w n : ℕ) (s : List ℤ) → n ≡ get_or (view s) at 0 → table_at at w s ≡ rows_at (at + 1) w n s
unfolding table_at
table_rows at w n s e = rw e

-- it has as many rows as the count says
pub table_length : (at w : ℕ) (s : List ℤ) → length (table_at at w s) ≡ get_or (view s) at 0
unfolding table_at
table_length at w s = length_rows (at + 1) w (get_or (view s) at 0) s

-- its rows can be compared
pub fits_rows : {at w n : ℕ} {s : List ℤ} → Fits at w s → n ≡ get_or (view s) at 0 → HasRows (at + 1) w n s
fits_rows {at} {w} {n} {s} f e = record {
  room = let small : n * w ≤ 128 * w = mul-le-mul_right w (rw e f.few) in omega (arith, f.room);
  low = rw (← table_rows at w n s e) f.low;
}

-- its rows are as long as its width
pub table_wide : {at w : ℕ} {s : List ℤ} → Fits at w s → Each (λ r. length r ≡ w) (table_at at w s)
table_wide {at} {w} {s} f =
    let n : ℕ = get_or (view s) at 0 in
    rw (table_rows at w n s refl) (rows_wide (at + 1) w n s (fits_rows f refl).room)

-- a count that is stored makes a table of so many rows
pub count_stored : (at w n : ℕ) (s : List ℤ) → at < length s → table_at at w (set s at (pos n)) ≡ rows_at (at + 1) w n s
count_stored at w n s h =
    table_rows at w n (set s at (pos n)) (sym (stored_number at n s h)) ∙ rows_outside (only_set at (pos n) s) (at + 1) w n (inr (omega arith))

-- a table that was moved with its count is the same table
pub table_moved : (from to w n : ℕ) (s : List ℤ) → n ≡ get_or (view s) from 0 → from + (1 + n * w) ≤ length s → to ≤ length s →
    table_at to w (put to (part from (1 + n * w) s) s) ≡ table_at from w s
table_moved from to w n s e h l =
    let size : ℕ = 1 + n * w in
    let t : List ℤ = put to (part from size s) s in
    let block : part to size t ≡ part from size s = rw (length_part from size s h) at (part_put_all to (part from size s) s l) in
    let count : get_or (view t) to 0 ≡ n =
    rw (add-zero to, add-zero from) at (sym (row_number to size 0 t (omega arith)) ∙ ap (λ (r : List ℕ). get_or r 0 0) (row_put to from size s s l h) ∙ row_number from size 0 s (omega arith)) ∙ sym e in
    let rows : part (to + 1) (n * w) t ≡ part (from + 1) (n * w) s =
    sym (part_part to size 1 (n * w) t (omega arith)) ∙ ap (part 1 (n * w)) block ∙ part_part from size 1 (n * w) s (omega arith) in
    table_rows to w n t (sym count) ∙ rows_part (to + 1) w n t ∙ ap (λ (r : List ℤ). rows_of w n (view r)) rows
    ∙ sym (rows_part (from + 1) w n s) ∙ sym (table_rows from w n s e)
