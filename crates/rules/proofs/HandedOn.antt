-- A refusal that is handed on by `?` is the refusal that came. Assumes nothing.
use Rattle.std.specs.Prelude.{◌≡◌, ℕ, Option, Some, None, Result, Ok, Err, IsErrAnd, ok_or}
use Rattle.std.proofs.lemmas.Result.{err_from_is_err_and}
use mathlib.Core.Path.{refl, sym, ap, ◌∙◌}
use native.Mathlib.Omega.{arith}

pub handed_on : {A E : Type 0} {x : E} (r : Result A E) → IsErrAnd r (λ y. y ≡ x) → r ≡ Err x
handed_on r e = let p = err_from_is_err_and r e in p.1 ∙ ap Err p.2

-- what `ok_or` was asked of
module _ {A E : Type 0} where
  pub was_some : (o : Option A) {r : Result A E} (e : E) {x : A} → r ≡ ok_or o e → r ≡ Ok x → o ≡ Some x
  was_some (Some y) e p q = ap Some (cc (sym p ∙ q))
  was_some None e p q = absurd (let z : ◌≡◌ {A = ℕ} 0 1 = cc (sym p ∙ q) in omega arith)

  pub was_none : (o : Option A) {r : Result A E} (e : E) {y : E} → r ≡ ok_or o e → r ≡ Err y → (o ≡ None) × (y ≡ e)
  was_none (Some x) e p q = absurd (let z : ◌≡◌ {A = ℕ} 0 1 = cc (sym p ∙ q) in omega arith)
  was_none None e p q = (refl, sym (cc (sym p ∙ q)))
