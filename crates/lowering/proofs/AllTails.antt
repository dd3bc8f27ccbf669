-- `list_rows`: the first i rows of the table, each with every index of the last axes in it, are in the other table. Assumes nothing.
use mathlib.Core.Path.{◌≡◌, refl, sym, ap, ◌∙◌}
use mathlib.Core.Bool.{Bool, true, false}
use mathlib.Core.List.{List, [], ◌∷◌, ◌++◌, append_assoc, append-nil}
use mathlib.Core.Logic.{◌⊎◌, inl, inr, ⊎_elim}
use Prim.Native.Nat.{ℕ, ◌+◌, ◌*◌, ◌<◌, ◌≤◌}
use native.Mathlib.Nat.{mul-le-mul_right}
use native.Mathlib.Numerals.{add-one}
use native.Mathlib.Omega.{arith}
use lib.IntN.{ℤ}
use lib.ListN.{get_or, take, drop, take-append-drop}
use lib.Seq.{take-suc, take_all}
use Rattle.rules.specs.Lists.{gather, product}
use Rattle.cells.specs.View.{view}
use Rattle.tables.specs.Rows.{row_at}
use Rattle.tables.specs.Tables.{table_at, room_end, Taken}
use Rattle.tables.proofs.Rows.{row_ends, row_of, has_row}
use Rattle.tables.proofs.Only.{row_outside, has_row_outside}
use Rattle.tables.proofs.Tables.{table_rows, table_length, fits_rows}
use Rattle.tables.proofs.Taking.{taken_none, taken_then, taken_stop}
use Rattle.lowering.specs.Lowering.{last_axes, last_positions, with_tails, all_tails, RowAsked, RowsAsked}

-- ---- rows with ends in them

module _ (w rank : ℕ) where
  -- some rows, and others
  all_append : (xs ys ends : List (List ℕ)) → all_tails w rank (xs ++ ys) ends ≡ all_tails w rank xs ends ++ all_tails w rank ys ends
  unfolding gather
  all_append [] ys ends = refl
  all_append (x ∷ xs) ys ends = rw (all_append xs ys ends, append_assoc)

  -- one row
  all_one : (r : List ℕ) (ends : List (List ℕ)) → all_tails w rank (r ∷ []) ends ≡ with_tails w rank r ends
  unfolding gather
  all_one r ends = append-nil (with_tails w rank r ends)

-- ---- the walk

pub record AllTails (from read extents w rank to width count size i : ℕ) (s t : List ℤ) : Type 0 where
  pub asked : RowsAsked from read extents w rank to width s
  pub count_is : count ≡ get_or (view s) from 0
  pub count_most : count ≤ 128
  pub size_is : size ≡ product (last_axes extents w rank s)
  pub upto : i ≤ count
  pub taken : Taken to width (all_tails w rank (take i (table_at from read s)) (last_positions extents w rank s)) s t true

pub start : {from read extents w rank to width count size : ℕ} {s : List ℤ} → RowsAsked from read extents w rank to width s → count ≡ get_or (view s) from 0 →
    size ≡ product (last_axes extents w rank s) → AllTails from read extents w rank to width count size 0 s s
unfolding gather
start a n p = record {
  asked = a;
  count_is = n;
  count_most = omega (arith, a.rows.few);
  size_is = p;
  upto = omega arith;
  taken = taken_none a.target;
}

module _ {from read extents w rank to width count size : ℕ} {s : List ℤ} where
  module _ {i : ℕ} {t : List ℤ} (g : AllTails from read extents w rank to width count size i s t) where
    abbrev rows : List (List ℕ)
    rows = table_at from read s

    abbrev ends : List (List ℕ)
    ends = last_positions extents w rank s

    pub done : count ≤ i → Taken to width (all_tails w rank rows ends) s t true
    done h = rw (take_all i rows (rw table_length (omega (arith, g.count_is)))) at g.taken

    module _ (h : i < count) where
      -- where row i ends
      pub row_ended : from + 1 + i * read + read ≤ room_end from read
      row_ended =
          let small : count * read ≤ 128 * read = mul-le-mul_right read g.count_most in
          omega (arith, row_ends read h)

      row_apart : (from + 1 + i * read + read ≤ to) ⊎ (room_end to width ≤ from + 1 + i * read)
      row_apart = ⊎_elim (λ l. inl (omega (arith, row_ended))) (λ l. inr (omega arith)) g.asked.rows_apart

      axes_same : row_at extents rank t ≡ row_at extents rank s
      axes_same = row_outside g.taken.only extents rank g.asked.axes_apart

      pub ask_row_lem : RowAsked (from + 1 + i * read) read extents w rank size to width t
      ask_row_lem =
          let axes = g.asked.axes in
          record {
            row = has_row_outside g.taken.only (has_row (from + 1) read count s (fits_rows g.asked.rows g.count_is) i h) row_apart;
            axes = record {
              room = rw g.taken.only.size axes.room;
              upto = axes.upto;
              narrow = axes.narrow;
              small = rw axes_same axes.small;
            };
            widths = g.asked.widths;
            size_is = rw axes_same g.size_is;
            target = g.taken.ready refl;
            row_apart = row_apart;
            axes_apart = g.asked.axes_apart;
          }

      module _ {u : List ℤ} {r : Bool} (p : Taken to width (with_tails w rank (row_at (from + 1 + i * read) read t) (last_positions extents w rank t)) t u r) where
        row_is : row_at (from + 1 + i * read) read t ≡ get_or rows i []
        row_is =
            row_outside g.taken.only (from + 1 + i * read) read row_apart
            ∙ sym (row_of (from + 1) read count s i h)
            ∙ ap (λ (l : List (List ℕ)). get_or l i []) (sym (table_rows from read count s g.count_is))

        one_more : Taken to width (all_tails w rank (take (i + 1) rows) ends) s u r
        one_more =
            rw (add-one i, take-suc rows i [] (rw table_length (omega (arith, g.count_is))), all_append w rank (take i rows) (get_or rows i [] ∷ []) ends, all_one w rank)
            (taken_then g.taken (rw (row_is, axes_same) at p))

        pub turn : r ≡ true → AllTails from read extents w rank to width count size (i + 1) s u
        turn e = record {
          asked = g.asked;
          count_is = g.count_is;
          count_most = g.count_most;
          size_is = g.size_is;
          upto = omega arith;
          taken = rw e at one_more;
        }

        pub stop : r ≡ false → Taken to width (all_tails w rank rows ends) s u false
        stop e =
            rw (← all_append w rank (take (i + 1) rows) (drop (i + 1) rows) ends, take-append-drop)
            at (taken_stop (all_tails w rank (drop (i + 1) rows) ends) (rw e at one_more))

pub ruleset laws = (start, ask_row_lem, turn, stop, done)
