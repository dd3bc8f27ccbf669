-- The last axes of a shape at a place: their extents, and a row with one of their indices behind it. Assumes nothing.
use mathlib.Core.Path.{◌≡◌, sym, ap, ◌∙◌}
use mathlib.Core.Bool.{true}
use mathlib.Core.List.{List, [], ◌∷◌, ◌++◌, map, append_assoc}
use Prim.Native.Nat.{ℕ, zero, suc, ◌+◌, ◌-◌, ◌<◌, ◌≤◌}
use native.Mathlib.Nat.{mul_comm, le-mul_of_pos_right, le_trans}
use native.Mathlib.Omega.{arith}
use borrow.Author.Tests.{le-leb}
use lib.Dec.{eqb-suc-zero}
use lib.IntN.{ℤ, pos}
use lib.ListN.{length, get_or, take, drop, length-append, length-take, length-map, length-drop}
use lib.Seq.{drop-drop, take_at, drop_at, take-add}
use Rattle.rules.specs.Limits.{product_limit}
use Rattle.rules.specs.Lists.{keep, product}
use Rattle.rules.specs.Buffers.{part, put}
use Rattle.rules.specs.Layout.{within_product, nonzero_product}
use Rattle.rules.specs.Positions.{unravel}
use Rattle.rules.specs.Removal.{positions}
use Rattle.rules.proofs.Buffers.{part_take}
use Rattle.cells.specs.View.{view}
use Rattle.cells.proofs.View.{view_length, view_put, view_pos}
use Rattle.tables.specs.Rows.{row_at}
use Rattle.tables.proofs.Rows.{row_length}
use Rattle.axes.specs.Extents.{Extents, IndexAsked}
use Rattle.axes.proofs.Indices.{none_zero, unravel_length, unravel_position}
use Rattle.lowering.specs.Lowering.{Axes, last_axes}

-- of extents that are not zero the product of fewer is smaller
nonzero_drop : (l : List ℕ) (k : ℕ) → nonzero_product (drop k l) ≤ nonzero_product l
unfolding product keep
nonzero_drop l zero = omega arith
nonzero_drop [] (suc k) = omega arith
nonzero_drop (zero ∷ l) (suc k) = nonzero_drop l k
nonzero_drop (suc e ∷ l) (suc k) =
    le_trans (nonzero_drop l k) (rw (eqb-suc-zero e, mul_comm (suc e)) (le-mul_of_pos_right {m = suc e} (nonzero_product l) (omega arith)))

within_drop : (l : List ℕ) (k : ℕ) → nonzero_product l ≤ product_limit → within_product (drop k l) ≡ true
unfolding within_product
within_drop l k h = le-leb (nonzero_product (drop k l)) product_limit (le_trans (nonzero_drop l k) h)

-- the last axes have their extents in a part of the slice
last_axes_lem : (at w rank : ℕ) (s : List ℤ) → w ≤ rank → row_at (at + w) (rank - w) s ≡ last_axes at w rank s
last_axes_lem at w rank s h =
    let e : at + w + (rank - w) ≡ at + rank = omega arith in
    part_take (at + w) (rank - w) (view s) ∙ rw e (sym (ap (drop w) (part_take at rank (view s)) ∙ drop-drop w at (take (at + rank) (view s))))

module _ {at w rank : ℕ} {s : List ℤ} (a : Axes at w rank s) where
  pub last_extents : Extents (at + w) (rank - w) s
  last_extents =
      let u = a.upto in
      record { room = omega (arith, a.room); within = rw (last_axes_lem at w rank s u) (within_drop (row_at at rank s) w a.small) }

  -- their product
  pub last_product : {size : ℕ} → size ≡ product (row_at (at + w) (rank - w) s) → size ≡ product (last_axes at w rank s)
  last_product e = e ∙ ap product (last_axes_lem at w rank s a.upto)

  -- an index of them behind the first w of five numbers
  module _ (row : List ℤ) (long : length row ≡ 5) {number : ℕ} (h : number < product (last_axes at w rank s)) where
    pub ask_index : IndexAsked (at + w) (rank - w) s w row
    ask_index =
        let u = a.upto in
        let n = a.narrow in
        record { extents = last_extents; nonzero = rw (last_axes_lem at w rank s u) (none_zero (last_axes at w rank s) (omega arith)); room = omega arith }

    module _ {next : List ℤ} (is : next ≡ put w (map pos (unravel number (row_at (at + w) (rank - w) s))) row) where
      index : List ℕ
      index = unravel number (last_axes at w rank s)

      index_length : length index ≡ rank - w
      unfolding index
      index_length = unravel_length number (last_axes at w rank s) ∙ length-drop w (row_at at rank s) ∙ rw (row_length at rank s a.room)

      written : view next ≡ take w (view row) ++ (index ++ drop (w + length index) (view row))
      unfolding index
      written = rw (is, last_axes_lem at w rank s a.upto, view_put, view_pos, length-map)

      front_length : length (take w (view row)) ≡ w
      front_length = let u = a.upto in let n = a.narrow in simp (length-take, view_length) (omega arith)

      -- it is as long as before
      pub next_length : length next ≡ 5
      unfolding index
      next_length =
          let u = a.upto in
          let n = a.narrow in
          sym (view_length next) ∙ rw written (simp (length-append, length-drop, view_length) (omega (arith, front_length, index_length)))

      whole : List ℕ
      whole = take w (view row) ++ index

      whole_length : length whole ≡ rank
      unfolding whole index
      whole_length = let u = a.upto in simp length-append (omega (arith, front_length, index_length))

      split : view next ≡ whole ++ drop rank (view row)
      unfolding whole index
      split =
          let u = a.upto in
          let e : w + length index ≡ rank = omega (arith, index_length) in
          written ∙ rw e (sym (append_assoc (take w (view row)) index (drop rank (view row))))

      -- so are its first numbers and those from the rank on
      pub next_front : take w (view next) ≡ take w (view row)
      next_front = rw written (take_at (take w (view row)) (index ++ drop (w + length index) (view row)) w front_length)

      pub next_behind : drop rank (view next) ≡ drop rank (view row)
      next_behind = rw split (drop_at whole (drop rank (view row)) rank whole_length)

      -- and between them stands the index
      pub next_row : (m : ℕ) → row_at 0 (rank + m) next ≡ take w (view row) ++ (get_or (positions (last_axes at w rank s)) number [] ++ take m (drop rank (view row)))
      unfolding part whole index
      next_row m =
          take-add rank m (view next)
          ∙ rw (next_behind, split, take_at whole (drop rank (view row)) rank whole_length, ← unravel_position number (last_axes at w rank s) h)
          (append_assoc (take w (view row)) index (take m (drop rank (view row))))

pub ruleset laws = (last_extents, last_product)
