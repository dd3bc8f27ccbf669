-- `cleared`: the entry with 0 on the stretched axes. Assumes nothing.
use mathlib.Core.Path.{◌≡◌, refl, sym, ◌∙◌}
use mathlib.Core.Bool.{Bool, true, false}
use mathlib.Core.List.{List, Memᴰ}
use Prim.Native.Nat.{ℕ, ◌+◌, ◌<◌, ◌≤◌}
use native.Mathlib.Nat.{zero-add}
use native.Mathlib.Omega.{arith}
use lib.IntN.{ℤ, pos}
use lib.ListN.{length, get_or, drop, set, length-set, get_or-eq_default}
use lib.Seq.{get_or-set_other}
use Rattle.rules.specs.Stretching.{is_stretched, stretched_axes}
use Rattle.rules.proofs.Order.{ComparedNumbers, under, even, above, compare_numbers}
use Rattle.rules.proofs.Same.{true_not_false}
use Rattle.rules.proofs.Axes.{stretched_below, stretched_has}
use Rattle.cells.specs.View.{view}
use Rattle.cells.proofs.View.{view_set, stored_number}
use Rattle.tables.specs.Rows.{row_at}
use Rattle.tables.proofs.Rows.{row_length, row_number}
use Rattle.stretch.specs.Spread.{Shapes, extents_in}
use Rattle.stretch.specs.Tables.{Cleared}
use Rattle.stretch.proofs.StretchedAxes.{same_axis}

-- the row is 0 on the stretched axes below k, and the entry elsewhere
pub record Clearing (entry : List ℤ) (old : ℕ) (src : List ℤ) (at rank : ℕ) (shape : List ℤ) (k : ℕ) (row : List ℤ) : Type 0 where
  pub shapes : Shapes old src at rank shape
  pub upto : k ≤ rank
  pub entry_long : length entry ≡ 5
  pub long : length row ≡ 5
  pub zero : (j : ℕ) → j < k → is_stretched (extents_in old src) (row_at at rank shape) j ≡ true → get_or (view row) j 0 ≡ 0
  pub kept : (j : ℕ) → (j < k → is_stretched (extents_in old src) (row_at at rank shape) j ≡ true → ⊥) → get_or (view row) j 0 ≡ get_or (view entry) j 0

module _ {entry : List ℤ} {old : ℕ} {src : List ℤ} {at rank : ℕ} {shape : List ℤ} where
  pub start : Shapes old src at rank shape → length entry ≡ 5 → Clearing entry old src at rank shape 0 entry
  start a l = record { shapes = a; upto = omega arith; entry_long = l; long = l; zero = λ j h. absurd (omega arith); kept = λ j o. refl }

  module _ {k : ℕ} {row : List ℤ} (g : Clearing entry old src at rank shape k row) where
    abbrev old_shape : List ℕ
    old_shape = extents_in old src

    abbrev new_shape : List ℕ
    new_shape = row_at at rank shape

    module _ (h : k < rank) {b : Bool} (told : b ≡ is_stretched old_shape (drop at (view shape)) k) where
      -- what `is_stretched` tells of the axis
      told_is : is_stretched old_shape new_shape k ≡ b
      told_is = sym (told ∙ same_axis old_shape at rank shape k h)

      -- a stretched axis
      module _ (e : b ≡ true) {next : List ℤ} (is : next ≡ set row k (pos 0)) where
        other : (j : ℕ) → (j ≡ k → ⊥) → get_or (view next) j 0 ≡ get_or (view row) j 0
        other j n = rw (is, view_set) (get_or-set_other (view row) k j 0 0 n)

        here : get_or (view next) k 0 ≡ 0
        here = rw is (stored_number k 0 row (omega (arith, g.long, g.shapes.new_few)))

        pub turn : Clearing entry old src at rank shape (k + 1) next
        turn = record {
          shapes = g.shapes;
          upto = omega arith;
          entry_long = g.entry_long;
          long = rw (is, length-set) g.long;
          zero = λ j i s. by j (compare_numbers j k) i s;
          kept = λ j o. same j (compare_numbers j k) o;
        }
          where
            by : (j : ℕ) → ComparedNumbers j k → j < k + 1 → is_stretched old_shape new_shape j ≡ true → get_or (view next) j 0 ≡ 0
            by j (under l) i s = other j (λ d. omega arith) ∙ g.zero j l s
            by j (even l) i s = rw l here
            by j (above l) i s = absurd (omega arith)

            same : (j : ℕ) → ComparedNumbers j k → (j < k + 1 → is_stretched old_shape new_shape j ≡ true → ⊥) → get_or (view next) j 0 ≡ get_or (view entry) j 0
            same j (under l) o = other j (λ d. omega arith) ∙ g.kept j (λ i. o (omega arith))
            same j (even l) o = absurd (o (omega arith) (rw l (told_is ∙ e)))
            same j (above l) o = other j (λ d. omega arith) ∙ g.kept j (λ i. o (omega arith))

      -- another one
      pub pass : b ≡ false → {next : List ℤ} → next ≡ row → Clearing entry old src at rank shape (k + 1) next
      pass e is = rw is (record {
        shapes = g.shapes;
        upto = omega arith;
        entry_long = g.entry_long;
        long = g.long;
        zero = λ j i s. by j (compare_numbers j k) i s;
        kept = λ j o. g.kept j (λ i. o (omega arith));
      })
        where
          by : (j : ℕ) → ComparedNumbers j k → j < k + 1 → is_stretched old_shape new_shape j ≡ true → get_or (view row) j 0 ≡ 0
          by j (under l) i s = g.zero j l s
          by j (even l) i s = absurd (true_not_false (rw l at s) (told_is ∙ e))
          by j (above l) i s = absurd (omega arith)

    -- all axes
    module _ (h : rank ≤ k) where
      abbrev whole : List ℤ → List ℕ
      whole r = row_at 0 (rank + 1) r

      new_length : length new_shape ≡ rank
      new_length = row_length at rank shape g.shapes.new_in

      whole_length : (r : List ℤ) → length r ≡ 5 → length (whole r) ≡ rank + 1
      whole_length r l = row_length 0 (rank + 1) r (omega (arith, g.shapes.new_few))

      whole_at : (r : List ℤ) (j : ℕ) → j < rank + 1 → get_or (whole r) j 0 ≡ get_or (view r) j 0
      whole_at r j i = rw zero-add at (row_number 0 (rank + 1) j r i)

      pub done : Cleared old_shape new_shape (whole entry) (whole row)
      done = record {
        size = whole_length row g.long ∙ sym (whole_length entry g.entry_long);
        zero = λ j m.
            let s = stretched_below old_shape new_shape m in
            whole_at row j (omega (arith, s.0, new_length)) ∙ g.zero j (omega (arith, s.0, new_length)) s.1;
        kept = λ j o. by j o (compare_numbers j (rank + 1));
      }
        where
          past : (r : List ℤ) → length r ≡ 5 → (j : ℕ) → rank + 1 ≤ j → get_or (whole r) j 0 ≡ 0
          past r l j i = get_or-eq_default (whole r) 0 {n = j} (omega (arith, whole_length r l))

          by : (j : ℕ) → (Memᴰ j (stretched_axes old_shape new_shape) → ⊥) → ComparedNumbers j (rank + 1) → get_or (whole row) j 0 ≡ get_or (whole entry) j 0
          by j o (under i) =
              whole_at row j i ∙ g.kept j (λ l s. o (stretched_has old_shape new_shape (omega (arith, new_length, g.upto)) s)) ∙ sym (whole_at entry j i)
          by j o (even i) = past row g.long j (omega arith) ∙ sym (past entry g.entry_long j (omega arith))
          by j o (above i) = past row g.long j (omega arith) ∙ sym (past entry g.entry_long j (omega arith))

pub ruleset laws = (start, turn, pass, done)
