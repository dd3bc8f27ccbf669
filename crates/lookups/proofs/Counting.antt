-- `nnz`: how many positions are stored, by the kind of the record. Assumes nothing.
use mathlib.Core.Path.{◌≡◌, sym, ap, ◌∙◌}
use mathlib.Core.List.{List}
use Prim.Native.Nat.{ℕ, ◌-◌, ◌<◌}
use native.Mathlib.Omega.{arith}
use borrow.Author.Tests.{ne_eqb}
use lib.IntN.{ℤ}
use lib.ListN.{length, get_or, take, drop}
use Rattle.rules.specs.declared.Head.{Head}
use Rattle.rules.specs.Lists.{product}
use Rattle.rules.specs.Layout.{Layout}
use Rattle.rules.specs.Record.{layout_in, shape_in}
use Rattle.rules.specs.CountsAndForms.{nnz}
use Rattle.cells.specs.View.{view}
use Rattle.tables.specs.Rows.{row_at}
use Rattle.tables.proofs.Rows.{length_rows}
use Rattle.records.specs.Sound.{SoundRecord}
use Rattle.records.proofs.Sections.{other_default}
use Rattle.records.proofs.SoundRecords.{layout_shown, layout_sound}
use Rattle.records.proofs.Shown.{record_shape}
use Rattle.lookups.proofs.SoundRecords.{lent_shape, lent_inside}

-- a kind stands in the slice
pub kind_inside : {h : Head} {s : List ℤ} → SoundRecord h s → 0 < length s
kind_inside r = let two = lent_inside r in omega arith

module _ {h : Head} {s : List ℤ} (r : SoundRecord h s) {k : ℕ} (e : k ≡ get_or (view s) 0 0) where
  -- the kind that was read is the layout's
  pub kind_read : (layout_in s).kind ≡ k
  kind_read = ap (λ (l : Layout). l.kind) (layout_shown r) ∙ sym e

  -- one that is neither 0 nor 1 is 2
  pub kind_sparse : (k ≡ 0 → ⊥) → (k ≡ 1 → ⊥) → (layout_in s).kind ≡ 2
  kind_sparse m n = let most = (layout_sound r).form.kind_most in let same = kind_read in omega arith

  -- dense: the product of the extents
  pub nnz_dense : {n : ℕ} → k ≡ 0 → n ≡ product (row_at 3 h.rank s) → n ≡ nnz (layout_in s)
  unfolding nnz
  nnz_dense f g = g ∙ rw (record_shape r, kind_read, f)

  -- diagonal: the first extent, which is there
  pub nnz_diagonal : {n : ℕ} → k ≡ 1 → n ≡ get_or (shape_in (take (length s - 2) (drop 2 s))) 0 1 → n ≡ nnz (layout_in s)
  unfolding nnz
  nnz_diagonal f g =
      let wide = (layout_sound r).form.diagonal_wide (kind_read ∙ f) in
      let there : 0 < length (layout_in s).shape = omega arith in
      g ∙ rw (lent_shape r, kind_read, f) (other_default (layout_in s).shape 0 1 0 there)

  -- sparse: the rows
  pub nnz_sparse : (k ≡ 0 → ⊥) → (k ≡ 1 → ⊥) → h.rows.count ≡ nnz (layout_in s)
  unfolding nnz
  nnz_sparse m n = rw (kind_read, ne_eqb k 0 m, ne_eqb k 1 n, layout_shown r, length_rows)

pub ruleset laws = (kind_inside, nnz_dense, nnz_diagonal, nnz_sparse)
