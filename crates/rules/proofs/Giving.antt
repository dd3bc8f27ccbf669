-- What holds of the answer that a verdict gives, if it gives one. Assumes nothing.
use mathlib.Core.Path.{◌≡◌, refl, subst}
use mathlib.Core.Bool.{Bool, true, false}
use mathlib.Core.List.{List, [], ◌∷◌}
use Prim.Native.Nat.{ℕ}
use Rattle.rules.specs.Lists.{if}
use Rattle.rules.specs.Refusals.{Verdict, given, refused, in_form, ◌then◌, Reason, ◌when◌, lowest}
use Rattle.rules.specs.Layout.{Layout, made}
use Rattle.rules.specs.Soundness.{Sound}
use Rattle.rules.proofs.Made.{made_sound}

-- a verdict is refused, or gives an answer of which P holds
abbrev pub Giving : {A : Type 0} → (A → Type 0) → Verdict A → Type 0
Giving P (given a) = P a
Giving P (refused n) = Unit

-- the answer that is given is such
pub given_such : {A : Type 0} (P : A → Type 0) (v : Verdict A) {a : A} → Giving P v → v ≡ given a → P a
given_such P v {a} p e = rw e at p

module _ {A : Type 0} (P : A → Type 0) where
  -- one verdict of two
  pub giving_if : (test : Bool) (v w : Verdict A) → (test ≡ true → Giving P v) → (test ≡ false → Giving P w) → Giving P (if test v w)
  giving_if true v w p q = p refl
  giving_if false v w p q = q refl

  -- one step after the other
  pub giving_then : {B : Type 0} (Q : B → Type 0) (v : Verdict B) (next : B → Verdict A) → Giving Q v → ((b : B) → Q b → Giving P (next b)) → Giving P (v then next)
  giving_then Q (given b) next p q = q b p
  giving_then Q (refused n) next p q = tt

  -- behind reasons
  pub giving_step : (reasons : List Reason) (v : Verdict A) → Giving P v → Giving P (lowest reasons then λ _. v)
  giving_step reasons v p = by (lowest reasons)
    where
      by : (r : Verdict Unit) → Giving P (r then λ _. v)
      by (given t) = p
      by (refused n) = tt

  -- behind one reason, which does not hold then
  pub giving_unless : (n : ℕ) (test : Bool) (v : Verdict A) → (test ≡ false → Giving P v) → Giving P (lowest (n when test ∷ []) then λ _. v)
  unfolding lowest
  giving_unless n true v p = tt
  giving_unless n false v p = p refl

  -- another form of the answer
  pub giving_form : {B : Type 0} (f : B → A) (v : Verdict B) → Giving (λ b. P (f b)) v → Giving P (in_form f v)
  giving_form f (given b) p = p
  giving_form f (refused n) p = tt

-- a layout that is judged
pub giving_made : (P : Layout → Type 0) (l : Layout) → (Sound l → P l) → Giving P (made l)
giving_made P l p = by (made l) refl
  where
    by : (v : Verdict Layout) → made l ≡ v → Giving P v
    by (given x) e = let s = made_sound e in subst P s.0 (p s.1)
    by (refused n) e = tt
