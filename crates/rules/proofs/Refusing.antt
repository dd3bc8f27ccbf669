-- Which numbers a verdict can be refused with. Assumes nothing.
use mathlib.Core.Path.{◌≡◌, refl}
use mathlib.Core.Bool.{Bool, true, false, not}
use mathlib.Core.List.{List, [], ◌∷◌}
use Prim.Native.Nat.{ℕ}
use Rattle.rules.specs.Lists.{if}
use Rattle.rules.specs.Refusals.{Verdict, given, refused, in_form, ◌then◌, Reason, ◌when◌, lowest}
use Rattle.rules.specs.Layout.{Layout, well_formed, within_sizes, made}

-- a verdict is given, or refused with a number of which P holds
abbrev pub Refusing : (ℕ → Type 0) → {A : Type 0} → Verdict A → Type 0
Refusing P (given a) = Unit
Refusing P (refused n) = P n

-- P holds of the number of every reason
abbrev pub Reasons : (ℕ → Type 0) → List Reason → Type 0
Reasons P [] = Unit
Reasons P ((n when holds) ∷ reasons) = P n × Reasons P reasons

module _ (P : ℕ → Type 0) where
  -- one verdict of two
  pub refusing_if : {A : Type 0} (test : Bool) (v w : Verdict A) → (test ≡ true → Refusing P v) → (test ≡ false → Refusing P w) → Refusing P (if test v w)
  refusing_if true v w p q = p refl
  refusing_if false v w p q = q refl

  -- one step after the other
  pub refusing_then : {A B : Type 0} (v : Verdict A) (next : A → Verdict B) → Refusing P v → ((a : A) → Refusing P (next a)) → Refusing P (v then next)
  refusing_then (given a) next p q = q a
  refusing_then (refused n) next p q = p

  -- another form of the answer
  pub refusing_form : {A B : Type 0} (f : A → B) (v : Verdict A) → Refusing P v → Refusing P (in_form f v)
  refusing_form f (given a) p = tt
  refusing_form f (refused n) p = p

  -- the reasons of a step
  pub refusing_lowest : (reasons : List Reason) → Reasons P reasons → Refusing P (lowest reasons)
  unfolding lowest
  refusing_lowest [] p = tt
  refusing_lowest ((n when holds) ∷ reasons) p = refusing_if holds (refused n) (lowest reasons) (λ _. p.0) (λ _. refusing_lowest reasons p.1)

  -- a layout that is judged
  pub refusing_made : P 12 → P 13 → (l : Layout) → Refusing P (made l)
  unfolding made
  refusing_made p q l =
      let reasons : List Reason = 12 when not (well_formed l) ∷ 13 when not (within_sizes l) ∷ [] in
      refusing_then (lowest reasons) (λ _. given l) (refusing_lowest reasons (p, (q, tt))) (λ _. tt)
