-- `judge_mode`: a mode of stretching, by its sign and its value. Assumes nothing.
use Rattle.std.specs.Prelude.{None, Option, Some}
use mathlib.Core.Path.{◌≡◌, sym, ◌∙◌, subst}
use mathlib.Core.Bool.{false}
use Prim.Native.Nat.{ℕ}
use native.Mathlib.Omega.{arith}
use borrow.Author.Tests.{le-leb, lt-leb}
use lib.IntN.{ℤ}
use mir.Syntax.{w32}
use mir.Val.{SFits, to_z, of_z}
use mir.ValLaws.{to_z-of_z}
use Rattle.rules.specs.declared.Mode.{Mode}
use Rattle.rules.specs.declared.Mode.TheVariants.{Alone, Together}
use Rattle.rules.specs.Arguments.{good_mode}
use Rattle.rules.specs.Stretching.{mode_of}
use Rattle.cells.specs.View.{sign_of}
use Rattle.shapes.proofs.Reading.{as_natural, as_up_to, as_not_up_to}
use Rattle.judging.specs.Judging.{ModeGood, ModeIs}

module _ {g : (Option ℕ)} (z : ℤ) (e : g ≡ sign_of z) where
  -- a negative number names none
  pub mode_negative : g ≡ None → good_mode z ≡ false
  mode_negative f = sym (as_not_up_to z e 1 f)

  module _ {n : ℕ} (f : g ≡ Some n) where
    -- 0
    pub mode_alone : n ≡ 0 → ModeGood z Alone
    unfolding mode_of
    mode_alone h = record { good = sym (as_up_to z e 1 f) ∙ le-leb n 1 (omega arith); is = rw (← as_natural z e f, h) }

    -- 1
    pub mode_together : n ≡ 1 → ModeGood z Together
    unfolding mode_of
    mode_together h = record { good = sym (as_up_to z e 1 f) ∙ le-leb n 1 (omega arith); is = rw (← as_natural z e f, h) }

    -- a larger one names none
    pub mode_large : (n ≡ 0 → ⊥) → (n ≡ 1 → ⊥) → good_mode z ≡ false
    mode_large h k = sym (as_up_to z e 1 f) ∙ lt-leb n 1 (omega arith)

-- ---- what was judged, by the case that was met

-- a number is judged as it was handed over
pub mode_handed : (z : ℤ) (r : Option Mode) → SFits w32 z → ModeIs (to_z w32 (of_z w32 z)) r → ModeIs z r
mode_handed z r fits p = rw (to_z-of_z w32 z fits) at p

module _ (z : ℤ) {r : (Option Mode)} (p : ModeIs z r) where
  pub mode_good : {mode : Mode} → r ≡ Some mode → ModeGood z mode
  mode_good e = subst (ModeIs z) e p

  pub mode_wrong : r ≡ None → good_mode z ≡ false
  mode_wrong e = subst (ModeIs z) e p
