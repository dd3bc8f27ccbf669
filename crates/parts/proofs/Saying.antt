-- What a step says of a part, whether it is done or refused. Assumes nothing.
use Rattle.std.specs.Prelude.{Err, Ok, Result, ⊤}
use mathlib.Core.Path.{◌≡◌, sym, ◌∙◌}
use mathlib.Core.List.{List}
use Prim.Native.Nat.{ℕ}
use native.Mathlib.Omega.{arith}
use lib.IntN.{ℤ}
use Rattle.rules.specs.declared.Refusal.{Refusal}
use Rattle.rules.specs.Refusals.{Verdict, given, refused, number_of}
use Rattle.rules.specs.Layout.{Layout}
use Rattle.parts.specs.Parts.{layout_at}
use Rattle.parts.specs.Answers.{Says}

-- a step that is refused is not done
pub never_done : {why : Refusal} → ◌≡◌ {A = Result ⊤ Refusal} (Err why) (Ok tt) → ⊥
never_done e = let z : ◌≡◌ {A = ℕ} 0 1 = cc in omega arith

-- a step that is refused as the rule is says so, whatever stands in the part
pub says_refused : (why : Refusal) {v : Verdict Layout} (at : ℕ) (s : List ℤ) → v ≡ refused (number_of why) → Says v at s (Err why)
says_refused why at s e = record { is = sym e; holds = λ d. absurd (never_done d) }

module _ {v : Verdict Layout} {at : ℕ} {s : List ℤ} {step : (Result ⊤ Refusal)} (d : Says v at s step) where
  -- what a step says that is refused is refused
  pub refused_said : {why : Refusal} → step ≡ Err why → v ≡ refused (number_of why)
  refused_said e = sym d.is ∙ rw e

  -- what a step says that is done is the layout of the part
  pub done_said : step ≡ Ok tt → v ≡ given (layout_at at s)
  done_said e = sym d.is ∙ rw e
