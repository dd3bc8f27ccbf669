-- The rows plus every index of the values on the stretched axes are the rows that the rule gives. Assumes nothing.
use mathlib.Core.Path.{◌≡◌}
use mathlib.Core.List.{List}
use Prim.Native.Nat.{ℕ}
use native.Mathlib.Omega.{arith}
use Rattle.rules.specs.Lists.{gather, product}
use Rattle.rules.specs.RowsInOrder.{sorted}
use Rattle.rules.specs.Layout.{Layout, width}
use Rattle.rules.specs.Soundness.{WellFormed}
use Rattle.rules.specs.Stretching.{stretch_rows}
use Rattle.rules.proofs.Sorting.{sorted_same}
use Rattle.rules.proofs.Axes.{row_axes, row_axis, is_row_axis}
use Rattle.rules.proofs.Stretching.{Stretches, row_zero}
use Rattle.stretch.specs.Spread.{spread_over}
use Rattle.stretch.specs.Tables.{in_turn}
use Rattle.stretch.proofs.Plus.{moved_by}
use Rattle.stretch.proofs.Combinations.{Spreads, spreads_over, moved_only, moved_has}

module _ {l : Layout} (w : WellFormed l) {new : List ℕ} (g : Stretches l new) where
  -- how many values each axis of the rows takes
  abbrev values : List ℕ
  values = spread_over l.shape new (width l)

  -- the new extent on the stretched axes of the rows, 1 on the others
  pub row_spreads : Spreads new (row_axes l new) values (width l)
  row_spreads = spreads_over l.shape new (width l) (row_axes l new) (λ k m. row_axis l new m) (λ k h e. is_row_axis l new h (omega (arith, g.room)) e)

  -- in order the rows plus every index are the rows of the rule
  pub listed_rows : sorted (gather (λ r. in_turn (moved_by r values) (product values)) l.rows) ≡ stretch_rows l new
  unfolding stretch_rows
  listed_rows = sorted_same (moved_only row_spreads w.row_lengths (row_zero w new)) (moved_has row_spreads w.row_lengths (row_zero w new))
