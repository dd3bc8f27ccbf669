-- Numbers among which a zero is looked for. Assumes nothing.
use mathlib.Core.Path.{◌≡◌, refl, sym, ◌∙◌}
use mathlib.Core.Bool.{true, false, ◌||◌}
use mathlib.Core.List.{List}
use Prim.Native.Nat.{ℕ, ◌+◌, ◌<◌, ◌≤◌}
use native.Mathlib.Numerals.{add-one}
use native.Mathlib.Omega.{arith}
use borrow.Author.Tests.{eq-eqb, ne_eqb}
use lib.Dec.{eqb}
use lib.ListN.{length, get_or, drop, drop_of_length-le}
use lib.Seq.{drop-cons}
use Rattle.rules.specs.Lists.{any}

-- none of the first k of n numbers is
pub record NoZero (n k : ℕ) (l : List ℕ) : Type 0 where
  pub upto : k ≤ n
  pub size : n ≡ length l
  pub eq : any (eqb 0) l ≡ any (eqb 0) (drop k l)

-- none has been read
pub zero_start : {n : ℕ} {l : List ℕ} → n ≡ length l → NoZero n 0 l
zero_start e = record { upto = omega arith; size = e; eq = refl }

module _ {n k : ℕ} {l : List ℕ} (p : NoZero n k l) where
  module _ {e : ℕ} (h : k < n) (there : e ≡ get_or l k 1) where
    -- number k decides, and those behind it
    next : any (eqb 0) l ≡ eqb 0 e || any (eqb 0) (drop (k + 1) l)
    unfolding any
    next = let inside : k < length l = omega arith in p.eq ∙ rw (add-one, drop-cons l k 1, ← there)

    -- it is another
    pub zero_turn : (e ≡ 0 → ⊥) → NoZero n (k + 1) l
    zero_turn f = record { upto = omega arith; size = p.size; eq = next ∙ rw (ne_eqb 0 e (λ (z : 0 ≡ e). f (sym z))) }

    -- it is zero
    pub zero_stop : e ≡ 0 → true ≡ any (eqb 0) l
    zero_stop f = sym (next ∙ rw (eq-eqb 0 e (sym f)))

  -- none is
  pub zero_done : n ≤ k → false ≡ any (eqb 0) l
  unfolding any
  zero_done h = sym (p.eq ∙ rw (drop_of_length-le l {i = k} (omega arith)))

pub ruleset zero_laws = (zero_start, zero_turn, zero_stop, zero_done)
