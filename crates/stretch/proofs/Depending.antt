-- Dependencies of a record, each fitted to the new rank: `stretch_deps`. Assumes nothing.
use mathlib.Core.Path.{◌≡◌, refl, sym}
use mathlib.Core.Bool.{Bool, true, false}
use mathlib.Core.List.{List, [], append-nil}
use Prim.Native.Nat.{ℕ, zero, suc, ◌+◌, ◌*◌, ◌<◌, ◌≤◌}
use native.Mathlib.Numerals.{add-one}
use native.Mathlib.Omega.{arith}
use lib.IntN.{ℤ, pos}
use lib.ListN.{length, set}
use Rattle.rules.specs.declared.Mode.{Mode}
use Rattle.rules.specs.Lists.{gather, from, fit_to}
use Rattle.rules.specs.Dependencies.{on_index}
use Rattle.rules.specs.Stretching.{stretched_axes, yields, fitted_yields}
use Rattle.rules.proofs.Changed.{changed_low}
use Rattle.rules.proofs.Gathering.{gather_append}
use Rattle.rules.proofs.Replaced.{fit_low}
use Rattle.tables.specs.Rows.{row_at, rows_at, HasRow, HasRows}
use Rattle.tables.specs.Tables.{Taken, Listed}
use Rattle.tables.proofs.Rows.{row_length, has_row, rows_more, rows_none}
use Rattle.tables.proofs.Taking.{taken_none, cleared_ready, cleared_listed}
use Rattle.stretch.specs.Spread.{Shapes, extents_in}
use Rattle.stretch.specs.Tables.{in_turn, EntryAsked, DepsAsked, yielded}
use Rattle.stretch.proofs.InTurn.{turn_more, taken_turn, taken_halt}

-- ---- all dependencies: `stretch_deps`

-- what the rows of a slice give, one after the other
pub rows_turn : (f : List ℕ → List (List ℕ)) (a w n : ℕ) (s : List ℤ) → gather f (rows_at a w n s) ≡ in_turn (λ k. f (row_at (a + k * w) w s)) n
unfolding gather from
rows_turn f a w zero s = rw rows_none
rows_turn f a w (suc n) s =
    let more : gather f (rows_at a w (n + 1) s) ≡ in_turn (λ k. f (row_at (a + k * w) w s)) (n + 1) =
    rw (rows_more a w n s, gather_append f (rows_at a w n s), rows_turn f a w n s, append-nil) (sym (turn_more (λ k. f (row_at (a + k * w) w s)) n)) in
    rw add-one at more

-- what one dependency yields in a mode
abbrev pub yield_of : Mode → ℕ → ℕ → List ℤ → List ℕ → ℕ → List (List ℕ)
yield_of mode first old src new k = fitted_yields mode (extents_in old src) new (row_at (first + k * (old + 1)) (old + 1) src)

-- all of it is what the rule gathers
pub all_yielded : (mode : Mode) {first count old : ℕ} {src : List ℤ} {at rank : ℕ} {shape : List ℤ} {to : ℕ} {entry s t : List ℤ} {r : Bool} →
    DepsAsked first count old src at rank shape to entry → s ≡ set entry to (pos 0) → Taken to (rank + 1) (in_turn (yield_of mode first old src (row_at at rank shape)) count) s t r →
    Listed to (rank + 1) (yielded mode first count old src (row_at at rank shape)) entry t r
all_yielded mode {first} {count} {old} {src} {at} {rank} {shape} {entry = entry} a e p =
    rw (rows_turn (λ d. fitted_yields mode (extents_in old src) (row_at at rank shape) d) first (old + 1) count src)
    (cleared_listed entry e a.room p)

-- what the first i dependencies yield is in the table
pub record Depending (mode : Mode) (first count old : ℕ) (src : List ℤ) (at rank : ℕ) (shape : List ℤ) (to i : ℕ) (s t : List ℤ) : Type 0 where
  pub rows : HasRows first (old + 1) count src
  pub shapes : Shapes old src at rank shape
  pub upto : i ≤ count
  pub taken : Taken to (rank + 1) (in_turn (yield_of mode first old src (row_at at rank shape)) i) s t true

module _ {mode : Mode} {first count old : ℕ} {src : List ℤ} {at rank : ℕ} {shape : List ℤ} {to : ℕ} {s : List ℤ} where
  pub start : {entry : List ℤ} → DepsAsked first count old src at rank shape to entry → s ≡ set entry to (pos 0) → Depending mode first count old src at rank shape to 0 s s
  unfolding gather from
  start {entry} a e = record { rows = a.rows; shapes = a.shapes; upto = omega arith; taken = taken_none (cleared_ready entry e a.room) }

  module _ {i : ℕ} {t : List ℤ} (g : Depending mode first count old src at rank shape to i s t) where
    pub done : count ≤ i → Taken to (rank + 1) (in_turn (yield_of mode first old src (row_at at rank shape)) count) s t true
    done h = let u = g.upto in let e : i ≡ count = omega arith in rw e at g.taken

    module _ (h : i < count) where
      -- where dependency i stands
      there : HasRow (first + i * (old + 1)) (old + 1) src
      there = has_row first (old + 1) count src g.rows i h

      module _ (entry : List ℤ) (long : length entry ≡ 5) (is : row_at 0 (rank + 1) entry ≡ on_index (fit_to rank 0) (row_at (first + i * (old + 1)) (old + 1) src)) where
        pub ask_entry : EntryAsked entry old src at rank shape to t
        ask_entry = record {
          row = record {
            room = omega (arith, g.shapes.new_few);
            low = rw is (changed_low (fit_to rank 0) (row_at (first + i * (old + 1)) (old + 1) src) there.low (λ l. fit_low rank l));
          };
          shapes = g.shapes;
          target = g.taken.ready refl;
        }

        module _ {u : List ℤ} {r : Bool} (p : Taken to (rank + 1) (yields mode (row_at at rank shape) (stretched_axes (extents_in old src) (row_at at rank shape)) (row_at 0 (rank + 1) entry)) t u r) where
          one : Taken to (rank + 1) (yield_of mode first old src (row_at at rank shape) i) t u r
          one = rw (row_length at rank shape g.shapes.new_in) (rw is at p)

          pub turn : r ≡ true → Depending mode first count old src at rank shape to (i + 1) s u
          turn e = record {
            rows = g.rows;
            shapes = g.shapes;
            upto = omega arith;
            taken = taken_turn [] (yield_of mode first old src (row_at at rank shape)) g.taken one e;
          }

          pub stop : r ≡ false → Taken to (rank + 1) (in_turn (yield_of mode first old src (row_at at rank shape)) count) s u false
          stop e = taken_halt [] (yield_of mode first old src (row_at at rank shape)) g.taken one count h e
