-- `list_diagonal`: the rows (i,..,i) for the first numbers are in the table. Assumes nothing.
use mathlib.Core.Path.{◌≡◌, refl, sym, ap, ◌∙◌}
use mathlib.Core.Bool.{Bool, true, false}
use mathlib.Core.List.{List, []}
use Prim.Native.Nat.{ℕ, ◌+◌, ◌<◌, ◌≤◌}
use native.Mathlib.Nat.{zero-add}
use native.Mathlib.Omega.{arith}
use lib.IntN.{ℤ, pos}
use lib.ListN.{length, get_or, take, replicate, length-map}
use Rattle.rules.specs.Lists.{below}
use Rattle.rules.proofs.Ranges.{from_length, from_at, map_at}
use Rattle.rules.proofs.Replaced.{replicate_low}
use Rattle.cells.specs.View.{Low}
use Rattle.tables.specs.Rows.{row_at, HasRow}
use Rattle.tables.specs.Tables.{Ready, Put, Taken}
use Rattle.tables.proofs.Taking.{taken_none, taken_all, taken_next, taken_over}
use Rattle.tables.proofs.Rows.{five, five_row}
use Rattle.lowering.specs.Lowering.{DiagonalAsked, diagonal_of}

pub record Diagonal (to w extent i : ℕ) (s t : List ℤ) : Type 0 where
  pub asked : DiagonalAsked to w extent s
  pub upto : i ≤ extent
  pub taken : Taken to w (take i (diagonal_of w extent)) s t true

module _ {to w extent : ℕ} {s : List ℤ} where
  pub start : DiagonalAsked to w extent s → Diagonal to w extent 0 s s
  start a = record { asked = a; upto = omega arith; taken = taken_none a.target }

  module _ {i : ℕ} {t : List ℤ} (g : Diagonal to w extent i s t) where
    count : length (diagonal_of w extent) ≡ extent
    count = rw (length-map, from_length)

    pub can_take : Ready to w t
    can_take = g.taken.ready refl

    pub done : extent ≤ i → Taken to w (diagonal_of w extent) s t true
    done h = taken_all i (diagonal_of w extent) g.taken (rw count h)

    module _ (h : i < extent) {z : ℤ} (is : z ≡ pos i) where
      row_is : row_at 0 w (five z) ≡ replicate w i
      row_is = rw is (five_row w i g.asked.narrow)

      low : Low (replicate w i)
      low = let n = g.asked.small in replicate_low w i (omega arith)

      next : replicate w i ≡ get_or (diagonal_of w extent) i []
      next =
          sym (map_at (λ i. replicate w i) (below extent) i 0 [] (rw from_length h)
          ∙ ap (λ (n : ℕ). replicate w n) (from_at 0 extent i 0 h ∙ zero-add i))

      pub diagonal_row : HasRow 0 w (five z)
      diagonal_row = record { room = let n = g.asked.narrow in omega arith; low = rw row_is low }

      module _ {u : List ℤ} {r : Bool} (p : Put to w (row_at 0 w (five z)) t u r) where
        put_next : Put to w (get_or (diagonal_of w extent) i []) t u r
        put_next = rw (row_is, next) at p

        pub turn : r ≡ true → Diagonal to w extent (i + 1) s u
        turn e = record {
          asked = g.asked;
          upto = omega arith;
          taken = taken_next i (diagonal_of w extent) g.taken (rw count h) e (rw next at low) put_next;
        }

        pub stop : r ≡ false → Taken to w (diagonal_of w extent) s u false
        stop e = taken_over i (diagonal_of w extent) g.taken (rw count h) e (rw next at low) put_next

pub ruleset laws = (start, can_take, diagonal_row, turn, stop, done)
