-- `write_item`: one byte before a number, or none. Assumes nothing.
use mathlib.Core.Path.{◌≡◌, refl, ◌∙◌}
use mathlib.Core.List.{List, ◌∷◌}
use Prim.Native.Nat.{ℕ, zero, suc, ◌+◌, ◌≤◌}
use native.Mathlib.Omega.{arith}
use lib.IntN.{ℤ}
use lib.ListN.{length, set, length-set}
use mir.Syntax.{w32}
use mir.Val.{SFits}
use Rattle.cells.proofs.Signed.{held, back}
use Rattle.text.specs.Written.{number_text, item_text}
use Rattle.text.specs.Placed.{Wrote}
use Rattle.text.proofs.Bytes.{wrote_behind}

-- a store keeps the length
pub length_kept : (old now : List ℕ) (a b : ℕ) → length now ≡ length (set old a b) → length now ≡ length old
length_kept old now a b e = e ∙ length-set old a b

-- the same bytes, where there might have been one more
wrote_fewer : {most a : ℕ} {new old now : List ℕ} {r : ℕ} → Wrote most a new old now r → Wrote (most + 1) a new old now r
wrote_fewer w = let s = w.short in record { short = omega arith; end = w.end; is = w.is }

-- ---- `write_item`

after_space : (i : ℕ) (z : ℤ) → (i ≡ 0 → ⊥) → item_text i z ≡ 32 ∷ number_text z
unfolding item_text
after_space zero z h = absurd (h refl)
after_space (suc i) z h = refl

module _ (i : ℕ) (z : ℤ) (f : SFits w32 z) {a : ℕ} {old now : List ℕ} {r : ℕ} where
  pub item_first : i ≡ 0 → Wrote 11 a (number_text (held z)) old now r → Wrote 12 a (item_text i z) old now r
  unfolding item_text
  item_first e w = rw e (wrote_fewer (rw (back z f.sfits) at w))

  pub item_next : (i ≡ 0 → ⊥) → a + 12 ≤ length old → Wrote 11 (a + 1) (number_text (held z)) (set old a 32) now r → Wrote 12 a (item_text i z) old now r
  item_next e h w = rw (after_space i z e) (wrote_behind 32 (omega arith) (rw (back z f.sfits) at w))

pub ruleset laws = (length_kept, item_first, item_next)
