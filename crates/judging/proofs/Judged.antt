-- The ways out of a public function: the first reason that holds, or none. Assumes nothing.
use mathlib.Core.Path.{◌≡◌, refl, sym, ap, ◌∙◌}
use mathlib.Core.Bool.{Bool, true, false, not, ◌&&◌, ◌||◌}
use mathlib.Core.List.{List, [], ◌∷◌}
use Prim.Native.Nat.{ℕ}
use borrow.Author.Tests.{not-true, not-false}
use Rattle.rules.specs.declared.Refusal.TheVariants.{WrongArgument}
use Rattle.rules.specs.Refusals.{Verdict, given, refused, ◌then◌, number_of, Reason, ◌when◌, lowest}

-- ---- reasons

module _ {A : Type 0} (n : ℕ) (holds : Bool) (reasons : List Reason) (next : Unit → Verdict A) where
  -- the first reason holds
  pub first_holds : holds ≡ true → refused n ≡ lowest (n when holds ∷ reasons) then next
  unfolding lowest
  first_holds e = rw e

  -- it does not: one of the others may
  pub next_reason : {v : Verdict A} → holds ≡ false → v ≡ lowest reasons then next → v ≡ lowest (n when holds ∷ reasons) then next
  unfolding lowest
  next_reason e f = rw e f

-- none holds: the next step
pub none_holds : {A : Type 0} (next : Unit → Verdict A) {v : Verdict A} → v ≡ next tt → v ≡ lowest [] then next
unfolding lowest
none_holds next e = e

-- and that is what the call gives
pub goes_on : {A : Type 0} (next : Unit → Verdict A) → next tt ≡ lowest [] then next
unfolding lowest
goes_on next = refl

-- the same of the reasons alone
module _ (n : ℕ) (holds : Bool) (rest : List Reason) where
  pub reason_holds : holds ≡ true → lowest (n when holds ∷ rest) ≡ refused n
  unfolding lowest
  reason_holds e = rw e

  pub reason_passed : holds ≡ false → lowest (n when holds ∷ rest) ≡ lowest rest
  unfolding lowest
  reason_passed e = rw e

-- 5 alone: an argument is wrong, or none is
module _ (wrong : Bool) where
  pub argument_wrong : wrong ≡ true → lowest (5 when wrong ∷ []) ≡ refused (number_of WrongArgument)
  unfolding number_of
  argument_wrong e = reason_holds 5 wrong [] e

  pub argument_right : wrong ≡ false → lowest (5 when wrong ∷ []) ≡ given tt
  unfolding lowest
  argument_right e = reason_passed 5 wrong [] e

-- ---- tests that a reason is made of

-- a test as a call told it
module _ {b : Bool} (a : Bool) (e : b ≡ a) where
  pub told_true : b ≡ true → a ≡ true
  told_true f = sym e ∙ f

  pub told_false : b ≡ false → a ≡ false
  told_false f = sym e ∙ f

  pub told_not_true : not b ≡ true → a ≡ false
  told_not_true f = sym e ∙ not-true b f

  pub told_not_false : not b ≡ false → a ≡ true
  told_not_false f = sym e ∙ not-false b f

module _ (a b : Bool) where
  -- one of two
  pub either_first : a ≡ true → a || b ≡ true
  either_first e = rw e

  pub either_second : a ≡ false → b ≡ true → a || b ≡ true
  either_second e f = rw (e, f)

  pub either_none : a ≡ false → b ≡ false → a || b ≡ false
  either_none e f = rw (e, f)

  -- both of two
  pub both_hold : a ≡ true → b ≡ true → a && b ≡ true
  both_hold e f = rw (e, f)

  pub both_first : a ≡ false → a && b ≡ false
  both_first e = rw e

  pub both_second : a ≡ true → b ≡ false → a && b ≡ false
  both_second e f = rw (e, f)

-- the other way round
pub not_holds : (a : Bool) → a ≡ true → not a ≡ false
not_holds a e = rw e

pub not_fails : (a : Bool) → a ≡ false → not a ≡ true
not_fails a e = rw e

-- ---- what is given

pub given_is : {A : Type 0} {x y : A} → x ≡ y → given x ≡ given y
given_is e = ap given e

-- a test is given as a call told it
pub told_given : {b t : Bool} (a : Bool) → b ≡ a → b ≡ t → given t ≡ given a
told_given a e f = ap given (sym f ∙ e)

pub ruleset reasons = (first_holds, next_reason, none_holds, goes_on)

pub ruleset tests = (told_true, told_false, told_not_true, told_not_false, either_first, either_second, either_none, both_hold, both_first, both_second, not_holds, not_fails)

pub ruleset judged = (reasons, tests, given_is, told_given)
