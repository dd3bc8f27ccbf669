-- The ways out of `two_slots`. Assumes nothing.
use Rattle.std.specs.Prelude.{None, Option, Some}
use mathlib.Core.Path.{◌≡◌, refl, sym, ◌∙◌, subst}
use mathlib.Core.Bool.{Bool, true, false, ◌&&◌}
use Prim.Native.Nat.{ℕ, ◌+◌, ◌*◌, ◌/◌, ◌<◌, ◌≤◌}
use native.Mathlib.Omega.{arith}
use borrow.Author.Tests.{lt-ltb, le-ltb, eq-eqb, ne_eqb}
use lib.Dec.{ltb}
use lib.IntN.{ℤ, pos}
use mir.Syntax.{w32}
use mir.Val.{SFits}
use mir.ValLaws.{to_z-of_z}
use Rattle.rules.specs.Limits.{result_size}
use Rattle.rules.specs.Record.{natural}
use Rattle.cells.specs.View.{sign_of}
use Rattle.cells.proofs.Signed.{held}
use Rattle.records.proofs.Sections.{sign_natural, sign_negative}
use Rattle.rules.specs.Pile.{are_two_places}
use Rattle.pile.specs.Slots.{TwoSlots, SlotsAre}

-- a slot below the count lies in the pile
slot_in : (i size : ℕ) → i < size / result_size → i * result_size + result_size ≤ size
slot_in i size h = omega arith

never_both : (a b : Bool) → (a && false && b) ≡ false
never_both true b = refl
never_both false b = refl

-- ---- one test after the other

module _ (first second : ℤ) (size : ℕ) where
  -- the first number is negative
  pub first_negative : {g : (Option ℕ)} → g ≡ sign_of first → g ≡ None → are_two_places first second (size / result_size) ≡ false
  first_negative e f = rw (sign_negative first (sym e ∙ f))

  -- the second is
  pub second_negative : {g h : (Option ℕ)} {i : ℕ} → g ≡ sign_of first → g ≡ Some i → h ≡ sign_of second → h ≡ None → are_two_places first second (size / result_size) ≡ false
  second_negative {i = i} e f d k = rw (sign_natural first (sym e ∙ f), sign_negative second (sym d ∙ k)) (never_both (ltb i (size / result_size)) _)

-- neither is
pub record Naturals (first second : ℤ) (i j : ℕ) : Type 0 where
  pub first_is : first ≡ pos i
  pub second_is : second ≡ pos j

pub both_natural : (first second : ℤ) {g h : (Option ℕ)} {i j : ℕ} → g ≡ sign_of first → g ≡ Some i → h ≡ sign_of second → h ≡ Some j → Naturals first second i j
both_natural first second e f d k = record { first_is = sign_natural first (sym e ∙ f); second_is = sign_natural second (sym d ∙ k) }

module _ {first second : ℤ} {i j : ℕ} (n : Naturals first second i j) (size : ℕ) where
  -- the first is past the last slot
  pub first_past : size / result_size ≤ i → are_two_places first second (size / result_size) ≡ false
  first_past h = rw (n.first_is, le-ltb i (size / result_size) h)

  module _ (h : i < size / result_size) where
    -- the second is
    pub second_past : size / result_size ≤ j → are_two_places first second (size / result_size) ≡ false
    second_past k = rw (n.first_is, n.second_is, lt-ltb i (size / result_size) h, le-ltb j (size / result_size) k)

    module _ (k : j < size / result_size) where
      -- they are the same
      pub same_place : i ≡ j → are_two_places first second (size / result_size) ≡ false
      unfolding natural
      same_place e = rw (n.first_is, n.second_is, lt-ltb i (size / result_size) h, lt-ltb j (size / result_size) k, eq-eqb i j e)

      -- they are two places
      pub two_places : (i ≡ j → ⊥) → TwoSlots first second size (i * result_size) (j * result_size)
      unfolding natural
      two_places e = rw (n.first_is, n.second_is) (record {
        places = rw (lt-ltb i (size / result_size) h, lt-ltb j (size / result_size) k, ne_eqb i j e);
        first_at = refl;
        second_at = refl;
        inside = record { first_in = slot_in i size h; second_in = slot_in j size k };
      })

-- ---- what was found

-- the numbers that were handed over are those that were judged
pub slots_handed : (first second : ℤ) → SFits w32 first → SFits w32 second → (size : ℕ) (r : Option (ℕ × ℕ)) → SlotsAre (held first) (held second) size r → SlotsAre first second size r
slots_handed first second g h size r p = rw (to_z-of_z w32 first g, to_z-of_z w32 second h) at p

-- by the case that was met

module _ (first second : ℤ) (size : ℕ) {r : (Option (ℕ × ℕ))} (p : SlotsAre first second size r) where
  pub slots_told : {a b : ℕ} → r ≡ Some (a, b) → TwoSlots first second size a b
  slots_told e = subst (SlotsAre first second size) e p

  pub wrong_told : r ≡ None → are_two_places first second (size / result_size) ≡ false
  wrong_told e = subst (SlotsAre first second size) e p
