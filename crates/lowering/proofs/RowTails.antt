-- `list_row`: the row with the first indices of the last axes in it is in the table. Assumes nothing.
use mathlib.Core.Path.{◌≡◌, refl, sym, ap, ◌∙◌}
use mathlib.Core.Bool.{Bool, true, false}
use mathlib.Core.List.{List, [], ◌∷◌, ◌++◌, map}
use Prim.Native.Nat.{ℕ, zero, suc, ◌+◌, ◌-◌, ◌<◌, ◌≤◌}
use native.Mathlib.Nat.{sub-zero}
use native.Mathlib.Omega.{arith}
use lib.IntN.{ℤ, pos}
use lib.ListN.{length, get_or, take, drop, length-map, get_or-eq_default}
use lib.Seq.{take-nil, take-take, get_or-drop}
use Rattle.rules.specs.Limits.{product_limit}
use Rattle.rules.specs.Lists.{all_below, product}
use Rattle.rules.specs.Buffers.{part, put}
use Rattle.rules.specs.RowsInOrder.{In}
use Rattle.rules.specs.Positions.{unravel}
use Rattle.rules.specs.Removal.{positions}
use Rattle.rules.proofs.Order.{ComparedNumbers, under, even, above, compare_numbers}
use Rattle.rules.proofs.Extents.{extent_nonzero}
use Rattle.rules.proofs.Places.{in_at}
use Rattle.rules.proofs.Ranges.{map_at}
use Rattle.rules.proofs.Indices.{positions_only, positions_length}
use Rattle.rules.proofs.Low.{below_at}
use Rattle.rules.proofs.Changed.{RowBelow, take_low, drop_low, append_low}
use Rattle.cells.specs.View.{view, Low}
use Rattle.tables.specs.Rows.{row_at, HasRow}
use Rattle.tables.specs.Tables.{Ready, Put, Taken}
use Rattle.tables.proofs.Only.{row_outside}
use Rattle.tables.proofs.Taking.{taken_none, taken_all, taken_next, taken_over}
use Rattle.axes.specs.Extents.{IndexAsked}
use Rattle.lowering.specs.Lowering.{Axes, last_axes, last_positions, with_tails, RowAsked}
use Rattle.lowering.proofs.LastAxes.{ask_index, next_length, next_front, next_behind, next_row}

-- ---- numbers that are not negative

-- an index of a shape whose extents are small has small components
pub position_low : (axes : List ℕ) → ((k : ℕ) → get_or axes k 0 ≤ product_limit) → {index : List ℕ} → In index (positions axes) → RowBelow product_limit index
position_low axes f {index} m k = go (compare_numbers k (length index))
  where
    is : (length index ≡ length axes) × (all_below index axes ≡ true)
    is = positions_only axes m

    past : length index ≤ k → get_or index k 0 < product_limit
    past g = omega (arith, get_or-eq_default index 0 g)

    go : ComparedNumbers k (length index) → get_or index k 0 < product_limit
    go (under g) = omega (arith, below_at index axes is.1 k g (omega (arith, is.0)), f k)
    go (even g) = past (omega arith)
    go (above g) = past (omega arith)

-- ---- a row of which so many numbers are read

-- what is read behind the rank
cut : (read rank : ℕ) (l : List ℕ) → take (read - rank) (drop rank l) ≡ drop rank (take read l)
cut read zero l = rw sub-zero
cut zero (suc rank) l = let e : 0 - suc rank ≡ 0 = omega arith in rw e
cut (suc read) (suc rank) [] = take-nil (suc read - suc rank)
cut (suc read) (suc rank) (x ∷ l) = let e : suc read - suc rank ≡ read - rank = omega arith in rw e (cut read rank l)

-- ---- the walk

pub record RowTails (from read extents w rank size to width number : ℕ) (row s t : List ℤ) : Type 0 where
  pub asked : RowAsked from read extents w rank size to width s
  pub row_long : length row ≡ 5
  pub front : take w (view row) ≡ take w (row_at from read s)
  pub behind : take (read - rank) (drop rank (view row)) ≡ drop rank (row_at from read s)
  pub upto : number ≤ size
  pub taken : Taken to width (take number (with_tails w rank (row_at from read s) (last_positions extents w rank s))) s t true

module _ {from read extents w rank size to width : ℕ} {row s : List ℤ} where
  pub start : RowAsked from read extents w rank size to width s → length row ≡ 5 → row_at 0 read row ≡ row_at from read s → RowTails from read extents w rank size to width 0 row s s
  unfolding part
  start a l e = record {
    asked = a;
    row_long = l;
    front = sym (take-take w read (view row) a.widths.front) ∙ ap (take w) e;
    behind = cut read rank (view row) ∙ ap (drop rank) e;
    upto = omega arith;
    taken = taken_none a.target;
  }

  module _ {number : ℕ} {t : List ℤ} (g : RowTails from read extents w rank size to width number row s t) where
    abbrev axes : List ℕ
    axes = last_axes extents w rank s

    abbrev old : List ℕ
    old = row_at from read s

    abbrev rows : List (List ℕ)
    rows = with_tails w rank old (positions axes)

    count : length rows ≡ size
    count = rw (length-map, positions_length) (sym g.asked.size_is)

    shape_same : row_at extents rank t ≡ row_at extents rank s
    shape_same = row_outside g.taken.only extents rank g.asked.axes_apart

    axes_there : Axes extents w rank t
    axes_there = record {
      room = rw g.taken.only.size g.asked.axes.room;
      upto = g.asked.axes.upto;
      narrow = g.asked.axes.narrow;
      small = rw shape_same g.asked.axes.small;
    }

    pub can_take : Ready to width t
    can_take = g.taken.ready refl

    pub done : size ≤ number → Taken to width rows s t true
    done h = taken_all number rows g.taken (rw count h)

    module _ (h : number < size) where
      within : number < product (last_axes extents w rank t)
      within = rw (shape_same, ← g.asked.size_is) h

      pub ask_tail : IndexAsked (extents + w) (rank - w) t w row
      ask_tail = ask_index axes_there row g.row_long within

      module _ {next : List ℤ} (is : next ≡ put w (map pos (unravel number (row_at (extents + w) (rank - w) t))) row) where
        next_is : row_at 0 width next ≡ take w old ++ (get_or (positions axes) number [] ++ drop rank old)
        next_is = rw (g.asked.widths.width_is, ← g.front, ← g.behind, ← shape_same) (next_row axes_there row g.row_long within is (read - rank))

        next_at : row_at 0 width next ≡ get_or rows number []
        next_at =
            next_is
            ∙ sym (map_at (λ t. take w old ++ (t ++ drop rank old)) (positions axes) number [] [] (rw (positions_length, ← g.asked.size_is) h))

        next_low : Low (row_at 0 width next)
        next_low =
            let inside : number < length (positions axes) = rw (positions_length, ← g.asked.size_is) h in
            let extent : (k : ℕ) → get_or axes k 0 ≤ product_limit =
            λ k. rw get_or-drop (omega (arith, extent_nonzero (row_at extents rank s) (w + k) 0 (omega arith), g.asked.axes.small)) in
            let low = g.asked.row.low in
            rw next_is
            (append_low (take w old) (get_or (positions axes) number [] ++ drop rank old) (take_low w old low)
            (append_low (get_or (positions axes) number []) (drop rank old) (λ k. omega (arith, position_low axes extent (in_at (positions axes) number inside) k)) (drop_low rank old low)))

        pub full_row : HasRow 0 width next
        full_row =
            let n = g.asked.axes.narrow in
            let v = g.asked.widths in
            record { room = omega (arith, next_length axes_there row g.row_long within is); low = next_low }

        module _ {u : List ℤ} {r : Bool} (p : Put to width (row_at 0 width next) t u r) where
          put_next : Put to width (get_or rows number []) t u r
          put_next = rw next_at at p

          pub turn : r ≡ true → RowTails from read extents w rank size to width (number + 1) next s u
          turn e = record {
            asked = g.asked;
            row_long = next_length axes_there row g.row_long within is;
            front = next_front axes_there row g.row_long within is ∙ g.front;
            behind = rw (next_behind axes_there row g.row_long within is) g.behind;
            upto = omega arith;
            taken = taken_next number rows g.taken (rw count h) e (rw next_at at next_low) put_next;
          }

          pub stop : r ≡ false → Taken to width rows s u false
          stop e = taken_over number rows g.taken (rw count h) e (rw next_at at next_low) put_next

pub ruleset laws = (start, ask_tail, can_take, full_row, turn, stop, done)
