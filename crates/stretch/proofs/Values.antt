-- `put_values`: the entry with the first values on the axis is in the table. Assumes nothing.
use mathlib.Core.Path.{◌≡◌, refl, ◌∙◌}
use mathlib.Core.Bool.{Bool, true, false}
use mathlib.Core.List.{List, [], ◌∷◌}
use Prim.Native.Nat.{ℕ, ◌+◌, ◌^◌, ◌<◌, ◌≤◌}
use native.Mathlib.Omega.{arith}
use lib.IntN.{ℤ, pos}
use lib.ListN.{length, take, set, length-set}
use lib.Seq.{take-set-lt, set-set}
use Rattle.rules.specs.Lists.{with, gather, from}
use Rattle.rules.specs.Buffers.{part}
use Rattle.rules.proofs.Replaced.{with_set, with_length, with_low}
use Rattle.cells.specs.View.{view, Low}
use Rattle.cells.proofs.View.{view_set}
use Rattle.tables.specs.Rows.{row_at, HasRow}
use Rattle.tables.specs.Tables.{Ready, Put, Taken}
use Rattle.tables.proofs.Rows.{row_length}
use Rattle.tables.proofs.Taking.{taken_none, taken_one}
use Rattle.stretch.specs.Tables.{in_turn, ValuesAsked}
use Rattle.stretch.proofs.InTurn.{taken_turn, taken_halt}

-- a value that is stored on an axis of a row
pub stored_row : (row : List ℤ) (w axis v : ℕ) → axis < w → w ≤ length row → row_at 0 w (set row axis (pos v)) ≡ with axis v (row_at 0 w row)
unfolding part
stored_row row w axis v h l =
    rw (view_set, take-set-lt w (view row) axis v h, with_set {k = axis} v (take w (view row)) (rw (row_length 0 w row (omega arith)) h))

-- the last of two values stays
last_value : (axis u v : ℕ) (r : List ℕ) → axis < length r → with axis v (with axis u r) ≡ with axis v r
last_value axis u v r h = rw (with_set {k = axis} v (with axis u r) (rw (with_length {k = axis} u r h) h), with_set {k = axis} u r h, with_set {k = axis} v r h, set-set)

-- the entry with each value in turn
abbrev pub valued : List ℤ → ℕ → ℕ → ℕ → List (List ℕ)
valued entry axis w v = with axis v (row_at 0 w entry) ∷ []

-- the entry with the first values is in the table; the row is the entry but for the axis
pub record Valuing (entry : List ℤ) (axis extent to w value : ℕ) (row s t : List ℤ) : Type 0 where
  pub asked : ValuesAsked entry axis extent to w s
  pub upto : value ≤ extent
  pub long : length row ≡ 5
  pub same : (v : ℕ) → with axis v (row_at 0 w row) ≡ with axis v (row_at 0 w entry)
  pub taken : Taken to w (in_turn (valued entry axis w) value) s t true

module _ {entry : List ℤ} {axis extent to w : ℕ} {s : List ℤ} where
  pub start : ValuesAsked entry axis extent to w s → length entry ≡ 5 → Valuing entry axis extent to w 0 entry s s
  unfolding gather from
  start a l = record { asked = a; upto = omega arith; long = l; same = λ v. refl; taken = taken_none a.target }

  module _ {value : ℕ} {row t : List ℤ} (g : Valuing entry axis extent to w value row s t) where
    room : w ≤ length row
    room = omega (arith, g.long, g.asked.narrow)

    pub can_take : Ready to w t
    can_take = g.taken.ready refl

    pub done : extent ≤ value → Taken to w (in_turn (valued entry axis w) extent) s t true
    done h = let u = g.upto in let e : value ≡ extent = omega arith in rw e at g.taken

    module _ (h : value < extent) where
      pub fits : value < 2 ^ 31
      fits = omega (arith, g.asked.extent_most)

      pub inside : axis < length row
      inside = omega (arith, room, g.asked.axis_in)

      module _ {next : List ℤ} (is : next ≡ set row axis (pos value)) where
        next_is : row_at 0 w next ≡ with axis value (row_at 0 w entry)
        next_is = rw is (stored_row row w axis value g.asked.axis_in room ∙ g.same value)

        next_low : Low (row_at 0 w next)
        next_low = rw next_is (with_low axis value (row_at 0 w entry) fits g.asked.row.low)

        next_long : length next ≡ 5
        next_long = rw (is, length-set) g.long

        pub next_row : HasRow 0 w next
        next_row = record { room = omega (arith, next_long, g.asked.narrow); low = next_low }

        module _ {u : List ℤ} {r : Bool} (p : Put to w (row_at 0 w next) t u r) where
          one : Taken to w (valued entry axis w value) t u r
          one = rw (← next_is) (taken_one can_take next_low p)

          pub turn : r ≡ true → Valuing entry axis extent to w (value + 1) next s u
          turn e = record {
            asked = g.asked;
            upto = omega arith;
            long = next_long;
            same = λ v. rw next_is (last_value axis value v (row_at 0 w entry) (rw (row_length 0 w entry g.asked.row.room) g.asked.axis_in));
            taken = taken_turn [] (valued entry axis w) g.taken one e;
          }

          pub stop : r ≡ false → Taken to w (in_turn (valued entry axis w) extent) s u false
          stop e = taken_halt [] (valued entry axis w) g.taken one extent h e

pub ruleset laws = (start, can_take, fits, inside, next_row, turn, stop, done)
