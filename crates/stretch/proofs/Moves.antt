-- Rows plus every index: `put_moved` and `stretch_rows`. Assumes nothing.
use mathlib.Core.Path.{◌≡◌, refl, sym, ap, ◌∙◌}
use mathlib.Core.Bool.{Bool, true, false}
use mathlib.Core.List.{List, []}
use Prim.Native.Nat.{ℕ, zero, suc, ◌+◌, ◌*◌, ◌^◌, ◌<◌, ◌≤◌}
use native.Mathlib.Omega.{arith}
use lib.IntN.{ℤ, pos}
use lib.ListN.{length, get_or, set, replicate, get_or-eq_default}
use Rattle.rules.specs.Limits.{product_limit}
use Rattle.rules.specs.Lists.{gather, from, product, all_below}
use Rattle.rules.specs.Buffers.{part, zeros}
use Rattle.rules.specs.Positions.{ravel_index, unravel}
use Rattle.rules.specs.Removal.{positions}
use Rattle.rules.proofs.Order.{ComparedNumbers, under, even, above, compare_numbers}
use Rattle.rules.proofs.Places.{in_at}
use Rattle.rules.proofs.Indices.{positions_only, positions_length, positions_ravel}
use Rattle.cells.specs.View.{view, Low}
use Rattle.tables.specs.Rows.{row_at, HasRow}
use Rattle.tables.specs.Tables.{Ready, Put, Taken, Listed}
use Rattle.tables.proofs.Rows.{row_length, row_ends, row_in}
use Rattle.tables.proofs.Taking.{taken_none, taken_one, cleared_ready, cleared_listed}
use Rattle.axes.specs.Extents.{Extents}
use Rattle.axes.proofs.Indices.{unravel_position}
use Rattle.parts.specs.Parts.{rows_from}
use Rattle.stretch.specs.Spread.{plus}
use Rattle.stretch.specs.Tables.{in_turn, AddAsked, Turned, MovesAsked, RowsAsked, moved_rows}
use Rattle.stretch.proofs.InTurn.{taken_turn, taken_halt}
use Rattle.stretch.proofs.StretchedAxes.{within_small}
use Rattle.stretch.proofs.Plus.{plus_at, moved_by, number_inside, index_length, moved_under, ask_add}
use Rattle.stretch.proofs.Turning.{ravel_zeros, zeros_below}
use Rattle.stretch.proofs.Depending.{rows_turn}

-- ---- one row: `put_moved`

-- zeros
zeros_row : (w : ℕ) → w ≤ 5 → row_at 0 w (zeros 5) ≡ replicate w 0
unfolding part view
zeros_row zero h = refl
zeros_row (suc zero) h = refl
zeros_row (suc (suc zero)) h = refl
zeros_row (suc (suc (suc zero))) h = refl
zeros_row (suc (suc (suc (suc zero)))) h = refl
zeros_row (suc (suc (suc (suc (suc zero))))) h = refl
zeros_row (suc (suc (suc (suc (suc (suc w)))))) h = absurd (omega arith)

-- the row plus the first indices is in the table, and the next index stands ready
pub record Moving (at w : ℕ) (src extents : List ℤ) (size to number : ℕ) (index s t : List ℤ) : Type 0 where
  pub asked : MovesAsked at w src extents size to s
  pub upto : number ≤ size
  pub long : length index ≡ 5
  pub below : number < size → all_below (row_at 0 w index) (row_at 0 w extents) ≡ true
  pub ravel : number < size → ravel_index (row_at 0 w index) (row_at 0 w extents) ≡ number
  pub taken : Taken to w (in_turn (moved_by (row_at at w src) (row_at 0 w extents)) number) s t true

module _ {at w : ℕ} {src extents : List ℤ} {size to : ℕ} {s : List ℤ} where
  pub move_start : MovesAsked at w src extents size to s → Moving at w src extents size to 0 (zeros 5) s s
  unfolding gather from
  move_start a = record {
    asked = a;
    upto = omega arith;
    long = refl;
    below = λ h.
        let only = positions_only (row_at 0 w extents) (in_at (positions (row_at 0 w extents)) 0 (rw positions_length (number_inside a h))) in
        rw (zeros_row w a.narrow) (zeros_below w (get_or (positions (row_at 0 w extents)) 0 []) (row_at 0 w extents) (sym (only.0 ∙ row_length 0 w extents a.extents_are.room)) only.1);
    ravel = λ h. rw (zeros_row w a.narrow) (ravel_zeros w (row_at 0 w extents));
    taken = taken_none a.target;
  }

  module _ {number : ℕ} {index t : List ℤ} (g : Moving at w src extents size to number index s t) where
    pub can_move : Ready to w t
    can_move = g.taken.ready refl

    module _ (h : number < size) where
      abbrev shape : List ℕ
      shape = row_at 0 w extents

      -- the index is that of the number
      index_is : row_at 0 w index ≡ unravel number (row_at 0 w extents)
      index_is =
          let long : length (row_at 0 w index) ≡ w = row_length 0 w index (omega (arith, g.long, g.asked.narrow)) in
          sym (unravel_position number shape (number_inside g.asked h) ∙ ap (λ (n : ℕ). get_or (positions (row_at 0 w extents)) n []) (sym (g.ravel h))
          ∙ positions_ravel (row_at 0 w index) shape (long ∙ sym (row_length 0 w extents g.asked.extents_are.room)) (g.below h))

      pub ask_sum : AddAsked at w src index
      ask_sum = ask_add g.asked h g.long index_is

      module _ (row : List ℤ) (long : length row ≡ 5) (sum : row_at 0 w row ≡ plus (row_at at w src) (row_at 0 w index)) where
        is : row_at 0 w row ≡ plus (row_at at w src) (unravel number (row_at 0 w extents))
        is = rw index_is at sum

        moved_low : Low (row_at 0 w row)
        moved_low k = by (compare_numbers k w)
          where
            size_is : length (row_at 0 w row) ≡ w
            size_is = row_length 0 w row (omega (arith, g.asked.narrow))

            past : w ≤ k → get_or (row_at 0 w row) k 0 < 2 ^ 31
            past l = omega (arith, get_or-eq_default (row_at 0 w row) 0 {n = k} (omega (arith, size_is)))

            by : ComparedNumbers k w → get_or (row_at 0 w row) k 0 < 2 ^ 31
            by (under l) =
                let p = row_length at w src g.asked.room in
                let q = index_length g.asked h in
                rw (is, plus_at (row_at at w src) (unravel number (row_at 0 w extents)) k (omega arith) (omega arith)) (moved_under g.asked h k l)
            by (even l) = past (omega arith)
            by (above l) = past (omega arith)

        -- the sum is a row that can be put
        pub moved_row : HasRow 0 w row
        moved_row = record { room = omega (arith, g.asked.narrow); low = moved_low }

        module _ {u : List ℤ} {r : Bool} (p : Put to w (row_at 0 w row) t u r) where
          one_moved : Taken to w (moved_by (row_at at w src) (row_at 0 w extents) number) t u r
          one_moved = rw (← is) (taken_one can_move moved_low p)

          pub move_turn : r ≡ true → {next : List ℤ} → Turned w extents index next → length next ≡ 5 → Moving at w src extents size to (number + 1) next s u
          move_turn e {next} m l =
              let more : number + 1 < size → ravel_index (row_at 0 w index) (row_at 0 w extents) + 1 < product (row_at 0 w extents) = λ o. rw (g.ravel h, ← g.asked.size_is) o in
              record {
                asked = g.asked;
                upto = omega arith;
                long = l;
                below = λ o. m.below (more o);
                ravel = λ o. m.next (more o) ∙ ap (λ (n : ℕ). n + 1) (g.ravel h);
                taken = taken_turn [] (moved_by (row_at at w src) (row_at 0 w extents)) g.taken one_moved e;
              }

          pub move_stop : r ≡ false → Taken to w (in_turn (moved_by (row_at at w src) (row_at 0 w extents)) size) s u false
          move_stop e = taken_halt [] (moved_by (row_at at w src) (row_at 0 w extents)) g.taken one_moved size h e

-- ---- all rows: `stretch_rows`

-- what one row gives
abbrev pub given_by : ℕ → ℕ → List ℤ → List ℕ → ℕ → List (List ℕ)
given_by first w src extents k = in_turn (moved_by (row_at (first + k * w) w src) extents) (product extents)

-- what the first i rows give is in the table
pub record Listing (first count w : ℕ) (src extents : List ℤ) (size i : ℕ) (s t : List ℤ) : Type 0 where
  pub room : first + count * w ≤ length src
  pub narrow : w ≤ 4
  pub rows_small : (k : ℕ) → k < count → (j : ℕ) → j < w → get_or (row_at (first + k * w) w src) j 0 ≤ product_limit
  pub extents_are : Extents 0 w extents
  pub size_is : size ≡ product (row_at 0 w extents)
  pub upto : i ≤ count
  pub taken : Taken rows_from w (in_turn (given_by first w src (row_at 0 w extents)) i) s t true

-- all of them fill the table
pub all_listed : {first count w : ℕ} {src extents s old t : List ℤ} {r : Bool} → RowsAsked first count w src extents old → s ≡ set old rows_from (pos 0) →
    Taken rows_from w (in_turn (given_by first w src (row_at 0 w extents)) count) s t r → Listed rows_from w (moved_rows first count w src (row_at 0 w extents)) old t r
all_listed {first} {count} {w} {src} {extents} {old = old} a e p =
    rw (rows_turn (λ r. in_turn (moved_by r (row_at 0 w extents)) (product (row_at 0 w extents))) first w count src) (cleared_listed old e a.target p)

module _ {first count w : ℕ} {src extents : List ℤ} {size : ℕ} {s : List ℤ} where
  pub list_start : {old : List ℤ} → RowsAsked first count w src extents old → s ≡ set old rows_from (pos 0) → size ≡ product (row_at 0 w extents) →
      Listing first count w src extents size 0 s s
  unfolding gather from
  list_start {old} a e z = record {
    room = a.room;
    narrow = a.narrow;
    rows_small = λ k h. a.rows_small (row_at (first + k * w) w src) (row_in first w count src k h);
    extents_are = a.extents_are;
    size_is = z;
    upto = omega arith;
    taken = taken_none (cleared_ready old e a.target);
  }

  module _ {i : ℕ} {t : List ℤ} (g : Listing first count w src extents size i s t) where
    pub list_done : count ≤ i → Taken rows_from w (in_turn (given_by first w src (row_at 0 w extents)) count) s t true
    list_done h = let u = g.upto in let e : i ≡ count = omega arith in rw e at g.taken

    module _ (h : i < count) where
      pub row_ended : first + i * w + w ≤ length src
      row_ended = omega (arith, row_ends w h, g.room)

      pub ask_moves : MovesAsked (first + i * w) w src extents size rows_from t
      ask_moves = record {
        room = row_ended;
        narrow = omega (arith, g.narrow);
        sums_most = λ k l. omega (arith, g.rows_small i h k l, within_small (row_at 0 w extents) g.extents_are.within k);
        extents_are = g.extents_are;
        size_is = g.size_is;
        target = g.taken.ready refl;
      }

      module _ {u : List ℤ} {r : Bool} (p : Taken rows_from w (in_turn (moved_by (row_at (first + i * w) w src) (row_at 0 w extents)) size) t u r) where
        one_given : Taken rows_from w (given_by first w src (row_at 0 w extents) i) t u r
        one_given = rw g.size_is at p

        pub list_turn : r ≡ true → Listing first count w src extents size (i + 1) s u
        list_turn e = record {
          room = g.room;
          narrow = g.narrow;
          rows_small = g.rows_small;
          extents_are = g.extents_are;
          size_is = g.size_is;
          upto = omega arith;
          taken = taken_turn [] (given_by first w src (row_at 0 w extents)) g.taken one_given e;
        }

        pub list_stop : r ≡ false → Taken rows_from w (in_turn (given_by first w src (row_at 0 w extents)) count) s u false
        list_stop e = taken_halt [] (given_by first w src (row_at 0 w extents)) g.taken one_given count h e
