-- What dependencies yield: `put_axis`, `put_alone`, `fitted` and `stretch_deps`. Assumes nothing.
use mathlib.Core.Path.{◌≡◌, refl, sym, ap, ◌∙◌}
use mathlib.Core.Bool.{Bool, true, false}
use mathlib.Core.List.{List, [], ◌∷◌, ◌++◌, map}
use Prim.Native.Nat.{ℕ, ◌+◌, ◌<◌, ◌≤◌}
use native.Mathlib.Omega.{arith}
use lib.IntN.{ℤ}
use lib.ListN.{length, get_or, drop}
use Rattle.rules.specs.Lists.{if, keep, gather, from, below, with}
use Rattle.rules.specs.Stretching.{is_stretched, stretched_axes, every_value, alone}
use Rattle.cells.specs.View.{view}
use Rattle.tables.specs.Rows.{row_at}
use Rattle.tables.specs.Tables.{Put, Taken}
use Rattle.tables.proofs.Rows.{row_length, row_number}
use Rattle.tables.proofs.Taking.{taken_none, taken_one, taken_then, taken_stop}
use Rattle.stretch.specs.Spread.{extents_in}
use Rattle.stretch.specs.Tables.{in_turn, ValuesAsked, EntryAsked, yield_on}
use Rattle.stretch.proofs.InTurn.{taken_turn, taken_halt}
use Rattle.stretch.proofs.StretchedAxes.{same_axis, extent_small}
use Rattle.stretch.proofs.Values.{valued}

-- ---- one axis: `put_axis`

-- one element for each number
singles : (g : ℕ → List ℕ) (l : List ℕ) → gather (λ v. g v ∷ []) l ≡ map g l
unfolding gather
singles g [] = refl
singles g (x ∷ l) = ap (λ (t : List (List ℕ)). g x ∷ t) (singles g l)

module _ {entry : List ℤ} {old : ℕ} {s : List ℤ} {at rank : ℕ} {t : List ℤ} {to : ℕ} {u : List ℤ} (a : EntryAsked entry old s at rank t to u) {axis : ℕ} (h : axis < rank) where
  abbrev old_shape : List ℕ
  old_shape = extents_in old s

  abbrev new_shape : List ℕ
  new_shape = row_at at rank t

  abbrev entry_row : List ℕ
  entry_row = row_at 0 (rank + 1) entry

  extent_is : {x : ℕ} → x ≡ get_or (view t) (at + axis) 0 → x ≡ get_or new_shape axis 0
  extent_is e = e ∙ sym (row_number at rank axis t h)

  pub ask_values : {x : ℕ} → x ≡ get_or (view t) (at + axis) 0 → ValuesAsked entry axis x to (rank + 1) u
  ask_values e = record {
    row = a.row;
    narrow = omega (arith, a.shapes.new_few);
    axis_in = omega arith;
    extent_most = rw (extent_is e) (extent_small a.shapes axis);
    target = a.target;
  }

  module _ {b : Bool} (told : b ≡ is_stretched old_shape (drop at (view t)) axis) where
    told_is : is_stretched old_shape new_shape axis ≡ b
    told_is = sym (told ∙ same_axis old_shape at rank t axis h)

    -- a stretched axis
    pub axis_taken : b ≡ true → {x : ℕ} → x ≡ get_or (view t) (at + axis) 0 → {v : List ℤ} {r : Bool} → Taken to (rank + 1) (in_turn (valued entry axis (rank + 1)) x) u v r →
        Taken to (rank + 1) (yield_on old_shape new_shape entry_row axis) u v r
    unfolding every_value
    axis_taken e {x} f p = rw (told_is ∙ e, ← extent_is f, ← singles (λ v. with axis v entry_row) (below x)) p

    -- another one
    pub axis_kept : b ≡ false → Taken to (rank + 1) (yield_on old_shape new_shape entry_row axis) u u true
    axis_kept e = rw (told_is ∙ e) (taken_none a.target)

-- ---- one entry: `put_alone`

-- what is kept yields, and the others yield nothing
keep_yields : (test : ℕ → Bool) (f : ℕ → List (List ℕ)) (l : List ℕ) → gather f (keep test l) ≡ gather (λ k. if (test k) (f k) []) l
unfolding gather keep
keep_yields test f [] = refl
keep_yields test f (x ∷ l) = by (test x) refl (keep_yields test f l)
  where
    by : (b : Bool) → test x ≡ b → gather f (keep test l) ≡ gather (λ k. if (test k) (f k) []) l →
        gather f (keep test (x ∷ l)) ≡ gather (λ k. if (test k) (f k) []) (x ∷ l)
    by true e rest = rw (e, rest)
    by false e rest = rw (e, rest)

alone_yields : (old new d : List ℕ) → gather (λ axis. every_value new d axis) (stretched_axes old new) ≡ in_turn (yield_on old new d) (length new)
unfolding stretched_axes
alone_yields old new d = keep_yields (is_stretched old new) (λ axis. every_value new d axis) (below (length new))

-- what the entry yields on an axis, and in all
abbrev pub yields_of : List ℤ → ℕ → List ℤ → ℕ → ℕ → List ℤ → ℕ → List (List ℕ)
yields_of entry old src at rank shape axis = yield_on (extents_in old src) (row_at at rank shape) (row_at 0 (rank + 1) entry) axis

abbrev pub whole_of : List ℤ → ℕ → List ℤ → ℕ → ℕ → List ℤ → List (List ℕ)
whole_of entry old src at rank shape = alone (row_at at rank shape) (stretched_axes (extents_in old src) (row_at at rank shape)) (row_at 0 (rank + 1) entry)

-- what the entry yields on the first axes is in the table
pub record Yielding (entry : List ℤ) (old : ℕ) (src : List ℤ) (at rank : ℕ) (shape : List ℤ) (to axis : ℕ) (s t : List ℤ) : Type 0 where
  pub asked : EntryAsked entry old src at rank shape to s
  pub upto : axis ≤ rank
  pub taken : Taken to (rank + 1) (in_turn (yields_of entry old src at rank shape) axis) s t true

module _ {entry : List ℤ} {old : ℕ} {src : List ℤ} {at rank : ℕ} {shape : List ℤ} {to : ℕ} {s : List ℤ} where
  -- the entry itself goes first
  module _ (a : EntryAsked entry old src at rank shape to s) {t : List ℤ} {r : Bool} (p : Put to (rank + 1) (row_at 0 (rank + 1) entry) s t r) where
    first : Taken to (rank + 1) (row_at 0 (rank + 1) entry ∷ []) s t r
    first = taken_one a.target a.row.low p

    whole_is : whole_of entry old src at rank shape ≡ (row_at 0 (rank + 1) entry ∷ []) ++ in_turn (yields_of entry old src at rank shape) rank
    whole_is = rw (alone_yields (extents_in old src) (row_at at rank shape) (row_at 0 (rank + 1) entry), row_length at rank shape a.shapes.new_in)

    -- the entry itself is one too many
    pub first_over : r ≡ false → Taken to (rank + 1) (whole_of entry old src at rank shape) s t false
    first_over e = rw whole_is (taken_stop (in_turn (yields_of entry old src at rank shape) rank) (rw e at first))

    module _ (e : r ≡ true) where
      pub start : Yielding entry old src at rank shape to 0 t t
      unfolding gather from
      start =
          let ready = rw e at first in
          record { asked = record { row = a.row; shapes = a.shapes; target = ready.ready refl }; upto = omega arith; taken = taken_none (ready.ready refl) }

      -- and then what it yields
      pub all_taken : {u : List ℤ} {q : Bool} → Taken to (rank + 1) (in_turn (yields_of entry old src at rank shape) rank) t u q →
          Taken to (rank + 1) (whole_of entry old src at rank shape) s u q
      all_taken m = rw whole_is (taken_then (rw e at first) m)

  module _ {axis : ℕ} {t : List ℤ} (g : Yielding entry old src at rank shape to axis s t) where
    pub ask_axis : EntryAsked entry old src at rank shape to t
    ask_axis = record { row = g.asked.row; shapes = g.asked.shapes; target = g.taken.ready refl }

    pub done : rank ≤ axis → Taken to (rank + 1) (in_turn (yields_of entry old src at rank shape) rank) s t true
    done h = let u = g.upto in let e : axis ≡ rank = omega arith in rw e at g.taken

    module _ (h : axis < rank) {u : List ℤ} {r : Bool} (p : Taken to (rank + 1) (yields_of entry old src at rank shape axis) t u r) where
      pub turn : r ≡ true → Yielding entry old src at rank shape to (axis + 1) s u
      turn e = record { asked = g.asked; upto = omega arith; taken = taken_turn [] (yields_of entry old src at rank shape) g.taken p e }

      pub stop : r ≡ false → Taken to (rank + 1) (in_turn (yields_of entry old src at rank shape) rank) s u false
      stop e = taken_halt [] (yields_of entry old src at rank shape) g.taken p rank h e

pub ruleset laws = (first_over, start, ask_axis, turn, stop, done)
