-- A row plus an index: `added`. Assumes nothing.
use mathlib.Core.Path.{◌≡◌, refl, sym, ap, ◌∙◌}
use mathlib.Core.List.{List, [], ◌∷◌}
use Prim.Native.Nat.{ℕ, zero, suc, ◌+◌, ◌^◌, ◌<◌, ◌≤◌}
use native.Mathlib.Nat.{zero-add}
use native.Mathlib.Omega.{arith}
use lib.IntN.{ℤ, pos}
use lib.ListN.{length, get_or, set, length-set}
use lib.Seq.{get_or-set_same, get_or-set_other, ext_get_or}
use Rattle.rules.specs.Lists.{product}
use Rattle.rules.specs.Positions.{unravel}
use Rattle.rules.specs.Removal.{positions}
use Rattle.rules.proofs.Order.{ComparedNumbers, under, even, above, compare_numbers}
use Rattle.rules.proofs.Places.{in_at}
use Rattle.rules.proofs.Indices.{positions_only, positions_length}
use Rattle.rules.proofs.Low.{below_at}
use Rattle.cells.specs.View.{view}
use Rattle.cells.proofs.View.{view_length, view_set}
use Rattle.tables.specs.Rows.{row_at}
use Rattle.tables.proofs.Rows.{row_length, row_number}
use Rattle.axes.proofs.Indices.{unravel_length, unravel_position}
use Rattle.stretch.specs.Spread.{plus}
use Rattle.stretch.specs.Tables.{AddAsked, MovesAsked}

-- ---- sums of rows

-- as many numbers
pub plus_length : (p q : List ℕ) → length p ≡ length q → length (plus p q) ≡ length p
unfolding plus
plus_length [] q e = refl
plus_length (x ∷ p) [] e = absurd (omega arith)
plus_length (x ∷ p) (y ∷ q) e = ap suc (plus_length p q (omega arith))

-- each is the sum of both
pub plus_at : (p q : List ℕ) (k : ℕ) → k < length p → k < length q → get_or (plus p q) k 0 ≡ get_or p k 0 + get_or q k 0
unfolding plus
plus_at [] q k h l = absurd (omega arith)
plus_at (x ∷ p) [] k h l = absurd (omega arith)
plus_at (x ∷ p) (y ∷ q) zero h l = refl
plus_at (x ∷ p) (y ∷ q) (suc k) h l = plus_at p q k (omega arith) (omega arith)

-- a row plus the index of a number
abbrev pub moved_by : List ℕ → List ℕ → ℕ → List (List ℕ)
moved_by r extents n = plus r (unravel n extents) ∷ []

-- ---- one number after the other: `added`

-- the first k numbers are sums, the others are still those of the index
pub record Adding (at w : ℕ) (from index : List ℤ) (k : ℕ) (row : List ℤ) : Type 0 where
  pub asked : AddAsked at w from index
  pub upto : k ≤ w
  pub long : length row ≡ 5
  pub sums : (j : ℕ) → j < k → get_or (view row) j 0 ≡ get_or (view from) (at + j) 0 + get_or (view index) j 0
  pub rest : (j : ℕ) → k ≤ j → get_or (view row) j 0 ≡ get_or (view index) j 0

module _ {at w : ℕ} {from index : List ℤ} where
  pub add_start : AddAsked at w from index → Adding at w from index 0 index
  add_start a = record { asked = a; upto = omega arith; long = a.long; sums = λ j h. absurd (omega arith); rest = λ j h. refl }

  module _ {k : ℕ} {row : List ℤ} (g : Adding at w from index k row) where
    pub add_done : w ≤ k → row_at 0 w row ≡ plus (row_at at w from) (row_at 0 w index)
    add_done h =
        let p = row_length at w from g.asked.room in
        let q = row_length 0 w index (omega (arith, g.asked.long, g.asked.narrow)) in
        let r = row_length 0 w row (omega (arith, g.long, g.asked.narrow)) in
        ext_get_or 0 (row_at 0 w row) (plus (row_at at w from) (row_at 0 w index)) (r ∙ sym (plus_length (row_at at w from) (row_at 0 w index) (p ∙ sym q) ∙ p))
        (λ j l.
        let i : j < w = omega arith in
        row_number 0 w j row i ∙ ap (λ (n : ℕ). get_or (view row) n 0) (zero-add j) ∙ g.sums j (omega arith)
        ∙ sym (plus_at (row_at at w from) (row_at 0 w index) j (omega arith) (omega arith)
        ∙ rw (row_number at w j from i, row_number 0 w j index i, zero-add)))

    module _ (h : k < w) {x y : ℕ} (e : x ≡ get_or (view from) (at + k) 0) (f : y ≡ get_or (view row) k 0) where
      pub sum_small : x + y < 2 ^ 31
      sum_small =
          let i : get_or (row_at 0 w index) k 0 ≡ get_or (view index) k 0 = row_number 0 w k index h ∙ ap (λ (n : ℕ). get_or (view index) n 0) (zero-add k) in
          rw (e, f, g.rest k (omega arith), ← row_number at w k from h, ← i) (g.asked.sums_low k h)

      pub add_turn : {next : List ℤ} → next ≡ set row k (pos (x + y)) → Adding at w from index (k + 1) next
      add_turn {next} is = record {
        asked = g.asked;
        upto = omega arith;
        long = rw (is, length-set) g.long;
        sums = λ j l. sum j l (compare_numbers j k);
        rest = λ j l. other j (λ d. omega arith) ∙ g.rest j (omega arith);
      }
        where
          inside : k < length (view row)
          inside = rw view_length (omega (arith, g.long, g.asked.narrow))

          other : (j : ℕ) → (j ≡ k → ⊥) → get_or (view next) j 0 ≡ get_or (view row) j 0
          other j n = rw (is, view_set) (get_or-set_other (view row) k j (x + y) 0 n)

          sum : (j : ℕ) → j < k + 1 → ComparedNumbers j k → get_or (view next) j 0 ≡ get_or (view from) (at + j) 0 + get_or (view index) j 0
          sum j l (under o) = other j (λ d. omega arith) ∙ g.sums j o
          sum j l (even d) = rw (d, is, view_set, get_or-set_same (view row) k (x + y) 0 inside, e, f, g.rest k (omega arith))
          sum j l (above o) = absurd (omega arith)

pub ruleset adding = (add_start, sum_small, add_turn, add_done)

-- ---- a row plus the index of a number

-- each of its components is below its extent
pub unravel_under : (n : ℕ) (shape : List ℕ) → n < product shape → (k : ℕ) → k < length shape → get_or (unravel n shape) k 0 < get_or shape k 0
unravel_under n shape h k l =
    let only = positions_only shape (in_at (positions shape) n (rw positions_length h)) in
    rw (unravel_position n shape h) (below_at (get_or (positions shape) n []) shape only.1 k (omega (arith, only.0)) l)

module _ {at w : ℕ} {from extents : List ℤ} {size to : ℕ} {s : List ℤ} (a : MovesAsked at w from extents size to s) {number : ℕ} (h : number < size) where
  abbrev shape : List ℕ
  shape = row_at 0 w extents

  pub number_inside : number < product (row_at 0 w extents)
  number_inside = rw (← a.size_is) h

  -- it has as many components as there are extents
  pub index_length : length (unravel number (row_at 0 w extents)) ≡ w
  index_length = unravel_length number shape ∙ row_length 0 w extents a.extents_are.room

  -- each of them plus the number of the row is below 2 ^ 31
  pub moved_under : (k : ℕ) → k < w → get_or (row_at at w from) k 0 + get_or (unravel number (row_at 0 w extents)) k 0 < 2 ^ 31
  moved_under k l = omega (arith, a.sums_most k l, unravel_under number shape number_inside k (rw (row_length 0 w extents a.extents_are.room) l))

  pub ask_add : {index : List ℤ} → length index ≡ 5 → row_at 0 w index ≡ unravel number (row_at 0 w extents) → AddAsked at w from index
  ask_add long is = record { room = a.room; narrow = a.narrow; long = long; sums_low = rw is moved_under }
