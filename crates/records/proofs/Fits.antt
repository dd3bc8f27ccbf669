-- What judging rows finds, and what that says. Assumes nothing.
use Rattle.std.specs.Prelude.{None, Option, Some}
use mathlib.Core.Path.{◌≡◌, refl}
use mathlib.Core.Bool.{Bool, true, false}
use mathlib.Core.List.{List}
use Prim.Native.Nat.{ℕ}
use native.Mathlib.Omega.{arith}
use lib.IntN.{ℤ}
use Rattle.rules.specs.declared.Head.{Head}
use Rattle.records.specs.Judging.{Readable, fit_of, ReadableFit}

-- rows that do not fit
pub unfit : (b o : Bool) → false ≡ b → None ≡ fit_of b o
unfolding fit_of
unfit b o e = rw (← e)

-- so is it where they are found not to fit, to be in order, or to be in none
pub unfit_told : (b o : Bool) → None ≡ fit_of b o → b ≡ false
unfolding fit_of
unfit_told false o e = refl
unfit_told true o e = absurd (let z : ◌≡◌ {A = ℕ} 0 1 = cc e in omega arith)

pub fit_told : {i : Bool} (b o : Bool) → Some i ≡ fit_of b o → (b ≡ true) × (o ≡ i)
unfolding fit_of
fit_told false o e = absurd (let z : ◌≡◌ {A = ℕ} 0 1 = cc e in omega arith)
fit_told true o e = (refl, cc e)

-- whatever is found of a readable record, it is readable
pub fit_readable : {h : Head} {s : List ℤ} (r : Option Bool) → Readable h s → ReadableFit r h s
fit_readable None p = tt
fit_readable (Some true) p = p
fit_readable (Some false) p = p
