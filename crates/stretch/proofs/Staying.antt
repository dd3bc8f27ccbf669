-- Where no axis stretches, rows and dependencies stay as they are: `same_shape`, `stretch_rows` and `stretch_deps`. Assumes nothing.
use mathlib.Core.Path.{◌≡◌, refl, sym, ap, ◌∙◌}
use mathlib.Core.Bool.{Bool, true}
use mathlib.Core.List.{List, [], ◌∷◌}
use Prim.Native.Nat.{ℕ, ◌+◌, ◌^◌, ◌<◌, ◌≤◌}
use native.Mathlib.Nat.{add-zero, zero-div, zero-mod}
use native.Mathlib.Numerals.{add-one}
use native.Mathlib.Omega.{arith}
use borrow.Author.Tests.{ne_eqb}
use lib.Dec.{eqb}
use lib.IntN.{ℤ}
use lib.ListN.{length, get_or, get_or-eq_default}
use Rattle.rules.specs.declared.Mode.{Mode}
use Rattle.rules.specs.Lists.{gather, from, product, same}
use Rattle.rules.specs.Positions.{unravel}
use Rattle.rules.specs.RowsInOrder.{Each}
use Rattle.rules.proofs.Order.{ComparedNumbers, under, even, above, compare_numbers}
use Rattle.rules.proofs.Same.{same_true, lengths_differ}
use Rattle.rules.proofs.Sets.{each_head, each_tail}
use Rattle.rules.proofs.Unchanged.{none_stretched, all_same}
use Rattle.cells.specs.View.{Low}
use Rattle.tables.specs.Rows.{row_at, rows_at, HasRows}
use Rattle.tables.specs.Tables.{Listed, SortFromAsked}
use Rattle.tables.proofs.Rows.{row_length, rows_wide}
use Rattle.parts.specs.Parts.{rows_from}
use Rattle.stretch.specs.Spread.{Shapes, extents_in, plus}
use Rattle.stretch.specs.Tables.{in_turn, DepsAsked, yielded, RowsAsked, moved_rows}
use Rattle.stretch.proofs.Plus.{moved_by}

-- ---- the shape: `same_shape`

module _ {old : ℕ} {src : List ℤ} {at rank : ℕ} {shape : List ℤ} (a : Shapes old src at rank shape) where
  old_length : length (extents_in old src) ≡ old
  old_length = row_length 3 old src a.old_in

  new_length : length (row_at at rank shape) ≡ rank
  new_length = row_length at rank shape a.new_in

  pub other_rank : (old ≡ rank → ⊥) → eqb old rank ≡ same (extents_in old src) (row_at at rank shape)
  other_rank d = ne_eqb old rank d ∙ sym (lengths_differ (extents_in old src) (row_at at rank shape) (λ e. d (sym old_length ∙ e ∙ new_length)))

  module _ {b : Bool} (told : b ≡ same (extents_in old src) (row_at at rank shape)) (e : b ≡ true) where
    same_extents : extents_in old src ≡ row_at at rank shape
    same_extents = same_true (sym told ∙ e)

    same_rank : old ≡ rank
    same_rank = sym old_length ∙ ap length same_extents ∙ new_length

-- the same numbers, where there are as many
pub same_numbers : {old : ℕ} (src : List ℤ) (at rank : ℕ) (shape : List ℤ) {b : Bool} → old ≡ rank → b ≡ same (row_at 3 rank src) (row_at at rank shape) → b ≡ same (extents_in old src) (row_at at rank shape)
same_numbers src at rank shape e f = rw e f

-- ---- rows: `stretch_rows`

-- the first index is zeros
plus_first : (r shape : List ℕ) → length r ≡ length shape → plus r (unravel 0 shape) ≡ r
unfolding plus unravel
plus_first [] shape e = refl
plus_first (x ∷ r) [] e = absurd (omega arith)
plus_first (x ∷ r) (n ∷ shape) e = rw (zero-div (product shape), zero-mod n, add-zero x, plus_first r shape (omega arith))

-- and the only one, where the product is 1
moved_once : (r shape : List ℕ) → length r ≡ length shape → product shape ≡ 1 → in_turn (moved_by r shape) (product shape) ≡ r ∷ []
unfolding gather from
moved_once r shape e o = rw (o, plus_first r shape e)

-- rows of which each gives itself
gather_same : (f : List ℕ → List (List ℕ)) (rows : List (List ℕ)) → Each (λ r. f r ≡ r ∷ []) rows → gather f rows ≡ rows
unfolding gather
gather_same f [] p = refl
gather_same f (r ∷ rows) p = rw (each_head p, gather_same f rows (each_tail p))

module _ {first count w : ℕ} {src extents s : List ℤ} (a : RowsAsked first count w src extents s) where
  wide : Each (λ r. length r ≡ w) (rows_at first w count src)
  wide = rows_wide first w count src a.room

  low : Each Low (rows_at first w count src)
  low r m k = by (compare_numbers k w)
    where
      past : w ≤ k → get_or r k 0 < 2 ^ 31
      past h = omega (arith, get_or-eq_default r 0 {n = k} (rw (wide r m) h))

      by : ComparedNumbers k w → get_or r k 0 < 2 ^ 31
      by (under h) = omega (arith, a.rows_small r m k h)
      by (even h) = past (omega arith)
      by (above h) = past (omega arith)

  pub ask_sort : SortFromAsked first count w src rows_from s
  ask_sort = record { rows = record { room = a.room; low = low }; few = a.few; room = a.target }

  pub rows_stay : {size : ℕ} → size ≡ product (row_at 0 w extents) → size ≡ 1 → {t : List ℤ} → Listed rows_from w (rows_at first w count src) s t true →
      Listed rows_from w (moved_rows first count w src (row_at 0 w extents)) s t true
  rows_stay e o p =
      let long : length (row_at 0 w extents) ≡ w = row_length 0 w extents a.extents_are.room in
      rw (gather_same (λ r. in_turn (moved_by r (row_at 0 w extents)) (product (row_at 0 w extents))) (rows_at first w count src)
      (λ r m. moved_once r (row_at 0 w extents) (wide r m ∙ sym long) (sym e ∙ o))) p

-- ---- dependencies: `stretch_deps`

module _ {first count old : ℕ} {src : List ℤ} {at rank : ℕ} {shape : List ℤ} {to : ℕ} {s : List ℤ} (a : DepsAsked first count old src at rank shape to s)
    {b : Bool} (told : b ≡ same (extents_in old src) (row_at at rank shape)) (e : b ≡ true) where
  there : HasRows first (rank + 1) count src
  there = rw (same_rank a.shapes told e) at a.rows

  pub ask_sort_deps : SortFromAsked first count (rank + 1) src to s
  ask_sort_deps = record { rows = there; few = a.few; room = a.room }

  pub deps_stay : (mode : Mode) {t : List ℤ} → Listed to (rank + 1) (rows_at first (rank + 1) count src) s t true →
      Listed to (rank + 1) (yielded mode first count old src (row_at at rank shape)) s t true
  deps_stay mode p =
      rw (
        same_extents a.shapes told e,
        none_stretched (row_at at rank shape),
        same_rank a.shapes told e,
        all_same mode (row_at at rank shape) (rows_at first (rank + 1) count src)
            (λ d m. rows_wide first (rank + 1) count src there.room d m ∙ add-one rank ∙ rw (new_length a.shapes) refl),
      ) p
