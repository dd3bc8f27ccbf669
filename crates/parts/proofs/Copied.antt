-- The same numbers at two places, of one slice or of two. Assumes nothing.
use mathlib.Core.Path.{◌≡◌, sym, ap, ◌∙◌}
use mathlib.Core.List.{List}
use Prim.Native.Nat.{ℕ, ◌+◌, ◌*◌, ◌<◌, ◌≤◌}
use native.Mathlib.Nat.{add-zero}
use native.Mathlib.Omega.{arith}
use lib.IntN.{ℤ}
use lib.ListN.{get_or}
use Rattle.rules.specs.Buffers.{part}
use Rattle.rules.specs.Record.{rows_of}
use Rattle.rules.proofs.Buffers.{part_part}
use Rattle.cells.specs.View.{view}
use Rattle.cells.proofs.View.{view_part}
use Rattle.tables.specs.Rows.{rows_at}
use Rattle.tables.specs.Tables.{table_at}
use Rattle.tables.proofs.Rows.{row_number, rows_part}
use Rattle.tables.proofs.Tables.{table_rows}

module _ (a b n : ℕ) (s t : List ℤ) (e : part a n t ≡ part b n s) where
  -- one of them
  pub number_copied : (k : ℕ) → k < n → get_or (view t) (a + k) 0 ≡ get_or (view s) (b + k) 0
  number_copied k h =
      let same : part a n (view t) ≡ part b n (view s) = sym (view_part a n t) ∙ ap view e ∙ view_part b n s in
      sym (row_number a n k t h) ∙ ap (λ (l : List ℕ). get_or l k 0) same ∙ row_number b n k s h

  -- some of them
  pub part_copied : (k m : ℕ) → k + m ≤ n → part (a + k) m t ≡ part (b + k) m s
  part_copied k m h = sym (part_part a n k m t h) ∙ ap (part k m) e ∙ part_part b n k m s h

  -- a table
  pub table_copied : (w c : ℕ) → get_or (view s) b 0 ≡ c → 1 + c * w ≤ n → table_at a w t ≡ rows_at (b + 1) w c s
  table_copied w c f h =
      let first : get_or (view t) a 0 ≡ get_or (view s) b 0 = simp add-zero at (number_copied 0 (omega arith)) in
      table_rows a w c t (sym (first ∙ f)) ∙ rows_part (a + 1) w c t
      ∙ ap (λ (l : List ℤ). rows_of w c (view l)) (part_copied 1 (c * w) h)
      ∙ sym (rows_part (b + 1) w c s)
