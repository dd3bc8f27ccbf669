-- Which way two layouts are taken, test by test, and what a way tells. Assumes nothing.
use mathlib.Core.Path.{◌≡◌, refl, sym, ◌∙◌}
use mathlib.Core.Bool.{Bool, true, false, ◌&&◌, ◌||◌}
use Prim.Native.Nat.{ℕ}
use borrow.Author.Tests.{eqb-true, eqb-false}
use lib.Dec.{eqb}
use Rattle.rules.specs.Lists.{if}
use Rattle.rules.specs.Layout.{Layout, is_dense, is_diagonal}
use Rattle.rules.specs.Removal.{lists_row}
use Rattle.rules.specs.Pairs.{bars_expansion, alike_diagonals}
use Rattle.rules.proofs.Same.{both_true, neither}
use Rattle.combine.specs.declared.window.Way.{Way}
use Rattle.combine.specs.declared.window.Way.TheVariants.{Dense, Diagonals, Rows}
use Rattle.combine.specs.Window.{way_of}

-- ---- test by test

module _ (a b : Layout) {p : Bool} (p-is : p ≡ is_dense a) where
  pub first_dense : p ≡ true → Dense ≡ way_of a b
  unfolding way_of
  first_dense e = rw (← p-is, e)

  module _ (p-not : p ≡ false) {q : Bool} (q-is : q ≡ is_dense b) where
    pub second_dense : q ≡ true → Dense ≡ way_of a b
    unfolding way_of
    second_dense e = rw (← p-is, p-not, ← q-is, e)

    module _ (q-not : q ≡ false) {r : Bool} (r-is : r ≡ alike_diagonals a b) where
      pub diagonals : r ≡ true → Diagonals ≡ way_of a b
      unfolding way_of
      diagonals e = rw (← p-is, p-not, ← q-is, q-not, ← r-is, e)

      pub by_rows_lem : r ≡ false → Rows ≡ way_of a b
      unfolding way_of
      by_rows_lem e = rw (← p-is, p-not, ← q-is, q-not, ← r-is, e)

pub ruleset laws = (first_dense, second_dense, diagonals, by_rows_lem)

-- ---- what a way tells

-- the tests that lead there
pub data Told (a b : Layout) : Way → Type 0 where
  told_dense : is_dense a || is_dense b ≡ true → Told a b Dense
  told_diagonals : is_dense a || is_dense b ≡ false → alike_diagonals a b ≡ true → Told a b Diagonals
  told_rows : is_dense a || is_dense b ≡ false → alike_diagonals a b ≡ false → Told a b Rows

told : (a b : Layout) → Told a b (way_of a b)
unfolding way_of
told a b = go (is_dense a || is_dense b) (alike_diagonals a b) refl refl
  where
    go : (p q : Bool) → is_dense a || is_dense b ≡ p → alike_diagonals a b ≡ q → Told a b (if p Dense (if q Diagonals Rows))
    go true q e f = told_dense e
    go false true e f = told_diagonals e f
    go false false e f = told_rows e f

-- a way that was found
pub way_told : (a b : Layout) {w v : Way} → w ≡ way_of a b → w ≡ v → Told a b v
way_told a b e f = rw (sym e ∙ f) at (told a b)

-- two diagonals: the first is one
pub diagonal_first : {a b : Layout} → Told a b Diagonals → a.kind ≡ 1
diagonal_first {a} {b} (told_diagonals f g) = eqb-true a.kind 1 (both_true (is_diagonal a) (is_diagonal b) (left (is_diagonal a) (is_diagonal b) (eqb a.dense b.dense) g)).0
  where
    left : (x y z : Bool) → x && y && z ≡ true → x && y ≡ true
    left true true z k = refl
    left true false z k = k
    left false y z k = k

-- ---- a layout that can be lowered

pub record Free (l : Layout) (d : ℕ) : Type 0 where
  pub is_not_dense : l.kind ≡ 0 → ⊥
  pub expands : bars_expansion l ≡ false
  pub lists_none : lists_row l d ≡ false

-- neither is dense, bars the expansion or lists a row
pub both_free : {a b : Layout} (d : ℕ) → Told a b Rows → (bars_expansion a || bars_expansion b) ≡ false → (lists_row a d || lists_row b d) ≡ false → Free a d × Free b d
both_free {a} {b} d (told_rows f g) h i =
    let x = neither (is_dense a) (is_dense b) f in
    let y = neither (bars_expansion a) (bars_expansion b) h in
    let z = neither (lists_row a d) (lists_row b d) i in (
      record { is_not_dense = eqb-false a.kind 0 x.0; expands = y.0; lists_none = z.0 },
      record { is_not_dense = eqb-false b.kind 0 x.1; expands = y.1; lists_none = z.1 },
    )
