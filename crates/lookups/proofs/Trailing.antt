-- `min_rank`: the extents from an axis on are all 1. Assumes nothing.
use mathlib.Core.Path.{◌≡◌, refl, sym, ◌∙◌}
use mathlib.Core.Bool.{Bool, true, false, ◌&&◌}
use mathlib.Core.List.{List, [], ◌∷◌, ◌++◌}
use Prim.Native.Nat.{ℕ, suc, ◌+◌, ◌-◌, ◌≤◌, ◌<◌}
use native.Mathlib.Omega.{arith}
use borrow.Author.Tests.{ne_eqb}
use lib.Dec.{eqb, eqb-suc-zero}
use lib.IntN.{ℤ}
use lib.ListN.{length, get_or, take, length-take}
use lib.Seq.{take-suc, take-length}
use Rattle.rules.specs.Lists.{if}
use Rattle.rules.specs.Record.{shape_in}
use Rattle.rules.specs.CountsAndForms.{min_rank_of}

-- an extent 1 at the end does not count
last_one : (l : List ℕ) → min_rank_of (l ++ (1 ∷ [])) ≡ min_rank_of l
unfolding min_rank_of
last_one [] = refl
last_one (e ∷ l) = rw (last_one l)

-- any other does, and all before it
last_other : (l : List ℕ) (e : ℕ) → (e ≡ 1 → ⊥) → min_rank_of (l ++ (e ∷ [])) ≡ suc (length l)
unfolding min_rank_of
last_other [] e n = rw (ne_eqb e 1 n)
last_other (x ∷ l) e n = rw (last_other l e n, eqb-suc-zero (length l)) (second (eqb x 1))
  where
    second : (t : Bool) → if (t && false) 0 (suc (suc (length l))) ≡ suc (suc (length l))
    second true = refl
    second false = refl

-- the first axes decide
pub record Trailing (shape : List ℤ) (left : ℕ) : Type 0 where
  pub upto : left ≤ length (shape_in shape)
  pub eq : min_rank_of (shape_in shape) ≡ min_rank_of (take left (shape_in shape))

-- before the last axis
pub min_start : (shape : List ℤ) {left : ℕ} → left ≡ length (shape_in shape) → Trailing shape left
min_start shape e = record { upto = omega arith; eq = rw (e, take-length) }

module _ {shape : List ℤ} {left : ℕ} (t : Trailing shape left) (h : 0 < left) where
  -- the axes that are left, and the last of them
  last : take left (shape_in shape) ≡ take (left - 1) (shape_in shape) ++ (get_or (shape_in shape) (left - 1) 1 ∷ [])
  last =
      let one : suc (left - 1) ≡ left = omega arith in
      let there : left - 1 < length (shape_in shape) = omega (arith, t.upto) in
      rw one at (take-suc (shape_in shape) (left - 1) 1 there)

  module _ {e : ℕ} (f : e ≡ get_or (shape_in shape) (left - 1) 1) where
    -- its extent is 1
    pub min_turn : e ≡ 1 → Trailing shape (left - 1)
    min_turn g = record { upto = omega (arith, t.upto); eq = t.eq ∙ rw (last, ← f, g) (last_one (take (left - 1) (shape_in shape))) }

    -- its extent is another
    pub min_stop : (e ≡ 1 → ⊥) → left - 1 + 1 ≡ min_rank_of (shape_in shape)
    min_stop n =
        let size : length (take (left - 1) (shape_in shape)) ≡ left - 1 = simp length-take (omega (arith, t.upto)) in
        sym (t.eq ∙ rw (last, ← f, last_other (take (left - 1) (shape_in shape)) e n) (omega arith))

-- no axis is left
pub min_done : {shape : List ℤ} {left : ℕ} → Trailing shape left → left ≤ 0 → 0 ≡ min_rank_of (shape_in shape)
unfolding min_rank_of
min_done {shape} {left} t h = let e : left ≡ 0 = omega arith in sym (t.eq ∙ rw e)

pub ruleset laws = (min_start, min_turn, min_stop, min_done)
