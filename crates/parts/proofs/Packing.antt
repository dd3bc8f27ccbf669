-- `store_table`: a table as numbers of a record. Assumes nothing.
use mathlib.Core.Path.{◌≡◌, sym, ap, ◌∙◌}
use mathlib.Core.List.{List, [], ◌∷◌, ◌++◌, map}
use Prim.Native.Nat.{ℕ, zero, suc, ◌+◌, ◌*◌, ◌-◌, ◌^◌, ◌<◌, ◌≤◌}
use native.Mathlib.Nat.{mul-le-mul_right}
use native.Mathlib.Numerals.{add-one}
use native.Mathlib.Omega.{arith}
use lib.IntN.{ℤ, pos}
use lib.ListN.{length, get_or, take, drop}
use lib.Seq.{drop-cons}
use Rattle.rules.specs.Buffers.{part, put}
use Rattle.rules.specs.Lists.{gather}
use Rattle.rules.specs.RowsInOrder.{Each}
use Rattle.rules.specs.Layout.{section}
use Rattle.rules.proofs.Buffers.{length_part}
use Rattle.rules.proofs.RowsRead.{gather_rows}
use Rattle.rules.proofs.Sets.{each_head, each_tail}
use Rattle.cells.specs.View.{view, Low}
use Rattle.cells.proofs.View.{view_length, view_part, low_view}
use Rattle.tables.specs.Rows.{rows_at}
use Rattle.tables.specs.Tables.{table_at, Fits}
use Rattle.tables.proofs.Tables.{table_length}
use Rattle.parts.specs.Answers.{numbers_of, TableStored}

-- ---- low numbers

-- two lists of low numbers, one behind the other
pub low_append : (l m : List ℕ) → Low l → Low m → Low (l ++ m)
low_append [] m p q k = q k
low_append (x ∷ l) m p q zero = p 0
low_append (x ∷ l) m p q (suc k) = low_append l m (λ i. p (suc i)) q k

-- one low number more
pub low_cons : (x : ℕ) (l : List ℕ) → x < 2 ^ 31 → Low l → Low (x ∷ l)
low_cons x l h p zero = h
low_cons x l h p (suc k) = p k

-- the numbers of rows, one row behind the other
low_gather : (t : List (List ℕ)) → Each Low t → Low (gather (λ e. e) t)
unfolding gather
low_gather [] p = λ k. omega arith
low_gather (r ∷ t) p = low_append r (gather (λ e. e) t) (each_head p) (low_gather t (each_tail p))

-- ---- a part of a slice

-- its first number, and the part behind it
pub part_cons : (a n : ℕ) (l : List ℕ) → a < length l → part a (suc n) l ≡ get_or l a 0 ∷ part (a + 1) n l
unfolding part
part_cons a n l h = rw (drop-cons l a 0, add-one)

-- numbers that are seen as low ones are those
pub part_is : (a n : ℕ) (s : List ℤ) {l : List ℕ} → part a n (view s) ≡ l → Low l → part a n s ≡ map pos l
part_is a n s {l} e h =
    let seen : view (part a n s) ≡ l = view_part a n s ∙ e in
    low_view (part a n s) (rw seen h) ∙ ap (map pos) seen

-- ---- a table

module _ {at w : ℕ} {s : List ℤ} (f : Fits at w s) where
  -- its rows, as they stand in the slice
  rows_seen : gather (λ e. e) (table_at at w s) ≡ part (at + 1) (get_or (view s) at 0 * w) (view s)
  unfolding table_at rows_at part
  rows_seen = gather_rows w (get_or (view s) at 0) (drop (at + 1) (view s))

  -- its count and its rows
  table_seen : part at (suc (get_or (view s) at 0 * w)) (view s) ≡ section (table_at at w s)
  table_seen =
      part_cons at (get_or (view s) at 0 * w) (view s) (rw view_length (omega (arith, f.room))) ∙ rw (rows_seen, table_length at w s)

  -- the numbers that are written for it
  table_numbers : part at (suc (get_or (view s) at 0 * w)) s ≡ numbers_of (table_at at w s)
  table_numbers =
      part_is at (suc (get_or (view s) at 0 * w)) s table_seen
      (low_cons (length (table_at at w s)) (gather (λ e. e) (table_at at w s)) (rw table_length (omega (arith, f.few)))
      (low_gather (table_at at w s) f.low))

  module _ {n : ℕ} (e : n ≡ get_or (view s) at 0) where
    -- it lies in its room
    pub table_room : n * w ≤ 128 * w
    table_room = mul-le-mul_right w (rw e f.few)

    -- it is written
    pub table_stored : {to : ℕ} {t u : List ℤ} → u ≡ put to (take (at + (1 + n * w) - at) (drop at s)) t →
        TableStored at w to s t u (to + (1 + n * w))
    unfolding part
    table_stored {to} {t} p =
        let size : at + (1 + n * w) - at ≡ suc (get_or (view s) at 0 * w) = rw (← e) (omega arith) in
        let numbers : take (at + (1 + n * w) - at) (drop at s) ≡ numbers_of (table_at at w s) = rw size table_numbers in
        let long : length (numbers_of (table_at at w s)) ≡ 1 + n * w =
        ap length (sym table_numbers) ∙ length_part at (suc (get_or (view s) at 0 * w)) s (rw (← e) (omega (arith, f.room, table_room)))
        ∙ rw (← e) (omega arith) in
        record { is = rw numbers at p; next = rw long; upto = omega (arith, table_room) }
