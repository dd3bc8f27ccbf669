-- What a signed local says of the number that it holds. A local holds bits, and a need speaks of those bits, read back: of
-- `held z` where the code has z.
use Rattle.std.specs.Prelude.{None, Some}
use mathlib.Core.Path.{◌≡◌, refl, sym, ap, ◌∙◌}
use mathlib.Core.Bool.{true, false}
use mathlib.Core.List.{List}
use Prim.Native.Nat.{ℕ, zero, suc, ◌+◌, ◌-◌, ◌<◌, ◌≤◌, ◌^◌}
use native.Mathlib.Omega.{arith}
use lib.Dec.{T, ltb, eqb}
use lib.IntN.{ℤ, pos, negsuc, nat_abs, ◌-ℤ◌}
use lib.ListN.{get_or}
use lib.Signed.{mag, lt_z, non_neg}
use mir.Syntax.{w32, w64}
use mir.Val.{Fits, SFits, to_z, of_z}
use mir.ValLaws.{to_z-of_z}
use borrow.Author.Tests.{ltb-true, ltb-false, lt-ltb, le-ltb, eq-eqb, eqb-true}
use Rattle.std.specs.declared.cmp.Ordering.TheVariants.{Equal, Greater, Less}
use Rattle.std.specs.Prelude.{◌≢◌}
use Rattle.rules.proofs.Same.{one_test}
use Rattle.cells.specs.View.{code, view, sign_of, cmp_numbers}
use Rattle.cells.proofs.View.{view_get_or, code_one}

-- a local's bits, read back
abbrev pub held : ℤ → ℤ
held z = to_z w32 (of_z w32 z)

pub back : (z : ℤ) → mag z < 2 ^ 31 → held z ≡ z
back z h = to_z-of_z w32 z (record { sfits = h })

-- of a small natural number it is the number
pub held_pos : {z : ℤ} (i : ℕ) → i < 2 ^ 31 → z ≡ pos i → held z ≡ pos i
held_pos i h e = rw e (back (pos i) h)

negative : (z : ℤ) → lt_z z (pos 0) ≡ true → z ≡ negsuc (mag z)
negative (pos n) e = absurd (let h = ltb-true n 0 e in omega arith)
negative (negsuc n) e = refl

natural : (z : ℤ) → lt_z z (pos 0) ≡ false → z ≡ pos (mag z)
natural (pos n) e = refl
natural (negsuc n) e = absurd (let z : ◌≡◌ {A = ℕ} 0 1 = cc e in omega arith)

-- -1 less -(n + 1)
rest : (n : ℕ) → negsuc 0 -ℤ negsuc n ≡ pos n
rest n = rw (le-ltb (suc n) 1 (omega arith)) (ap pos (omega arith))

-- a natural number less another
within : (r n : ℕ) → n ≤ r → Some (r - n) ≡ sign_of (pos r -ℤ pos n)
unfolding sign_of
within r zero h = ap Some (omega arith)
within r (suc n) h = rw (le-ltb r (suc n) h)

short : (r n : ℕ) → r < n → None ≡ sign_of (pos r -ℤ pos n)
unfolding sign_of
short r zero h = absurd (omega arith)
short r (suc n) h = rw (lt-ltb r (suc n) h)

-- a local that is tested to be negative
module _ (z : ℤ) (h : mag z < 2 ^ 31) (e : lt_z (held z) (pos 0) ≡ true) where
  is_negative : z ≡ negsuc (mag z)
  is_negative = negative z (rw (back z h) at e)

  turned : negsuc 0 -ℤ held z ≡ pos (mag z)
  turned = ap (λ (y : ℤ). negsuc 0 -ℤ y) (back z h ∙ is_negative) ∙ rest (mag z)

  turned_back : held (negsuc 0 -ℤ held z) ≡ pos (mag z)
  turned_back = ap held turned ∙ back (pos (mag z)) h

  pub turned_fits : SFits w32 (negsuc 0 -ℤ held z)
  turned_fits = rw turned (record { sfits = h })

  pub turned_casts : T (non_neg (held (negsuc 0 -ℤ held z))) × Fits w64 (nat_abs (held (negsuc 0 -ℤ held z)))
  turned_casts = rw turned_back (tt, omega arith)

  pub turned_is : nat_abs (held (negsuc 0 -ℤ held z)) ≡ mag z
  turned_is = ap nat_abs turned_back

  pub negative_code : code z ≡ 2 ^ 31 + mag z
  negative_code = ap code is_negative

  pub negative_sign : None ≡ sign_of z
  unfolding sign_of
  negative_sign = sym (ap sign_of is_negative)

  -- less a negative number
  pub less_negative : (r : ℕ) → Some (r + 1 + nat_abs (held (negsuc 0 -ℤ held z))) ≡ sign_of (pos r -ℤ z)
  unfolding sign_of
  less_negative r = rw turned_is (ap Some (omega arith) ∙ sym (ap (λ (y : ℤ). sign_of (pos r -ℤ y)) is_negative))

-- a local that is tested not to be
module _ (z : ℤ) (h : mag z < 2 ^ 31) (e : lt_z (held z) (pos 0) ≡ false) where
  is_natural : z ≡ pos (mag z)
  is_natural = natural z (rw (back z h) at e)

  held_is : held z ≡ pos (mag z)
  held_is = back z h ∙ is_natural

  pub natural_casts : T (non_neg (held z)) × Fits w64 (nat_abs (held z))
  natural_casts = rw held_is (tt, omega arith)

  pub natural_is : nat_abs (held z) ≡ mag z
  natural_is = ap nat_abs held_is

  pub natural_code : code z ≡ mag z
  natural_code = ap code is_natural

  pub natural_sign : Some (nat_abs (held z)) ≡ sign_of z
  unfolding sign_of
  natural_sign = rw natural_is (sym (ap sign_of is_natural))

  -- less a natural number
  pub less_natural : (r : ℕ) → nat_abs (held z) ≤ r → Some (r - nat_abs (held z)) ≡ sign_of (pos r -ℤ z)
  less_natural r l = rw (natural_is, ap (λ (y : ℤ). sign_of (pos r -ℤ y)) is_natural) (within r (mag z) (rw natural_is at l))

  pub less_short : (r : ℕ) → r < nat_abs (held z) → None ≡ sign_of (pos r -ℤ z)
  less_short r l = rw (ap (λ (y : ℤ). sign_of (pos r -ℤ y)) is_natural) (short r (mag z) (rw natural_is at l))

pub ruleset signed = (turned_fits, turned_casts, negative_sign, less_negative, natural_casts, natural_sign, less_natural, less_short)

-- a number whose code is low is not negative
low_natural : (z : ℤ) → code z < 2 ^ 31 → lt_z z (pos 0) ≡ false
low_natural (pos n) l = le-ltb n 0 (omega arith)
low_natural (negsuc n) l = absurd (omega arith)

pub low_held : (z : ℤ) → mag z < 2 ^ 31 → code z < 2 ^ 31 → lt_z (held z) (pos 0) ≡ false
low_held z h l = rw (back z h) (low_natural z l)

-- two natural numbers compare as their codes do
below : (x y : ℤ) → code x < 2 ^ 31 → code y < 2 ^ 31 → lt_z x y ≡ ltb (code x) (code y)
below (pos m) (pos n) h k = refl
below (pos m) (negsuc n) h k = absurd (omega arith)
below (negsuc m) (pos n) h k = absurd (omega arith)
below (negsuc m) (negsuc n) h k = absurd (omega arith)

-- a natural number is below another, or below a negative one's code
less_is : (x y : ℤ) → code x < 2 ^ 31 → lt_z x y ≡ true → true ≡ ltb (code x) (code y)
less_is (pos m) (pos n) h e = sym e
less_is (pos m) (negsuc n) h e = cc e
less_is (negsuc m) y h e = absurd (omega arith)

else_is : (x y : ℤ) → code x < 2 ^ 31 → lt_z x y ≡ false → lt_z y (pos 0) ≡ ltb (code x) (code y)
else_is (pos m) (pos n) h e = le-ltb n 0 (omega arith) ∙ sym e
else_is (pos m) (negsuc n) h e = sym (lt-ltb m (2 ^ 31 + n) (omega arith))
else_is (negsuc m) y h e = absurd (omega arith)

equal : (x y : ℤ) → mag x < 2 ^ 31 → mag y < 2 ^ 31 → eqb (of_z w32 x) (of_z w32 y) ≡ eqb (code x) (code y)
equal x y h k =
    one_test (of_z w32 x) (of_z w32 y) (code x) (code y)
    (λ (e : of_z w32 x ≡ of_z w32 y). ap code (sym (back x h) ∙ ap (to_z w32) e ∙ back y k))
    (λ (e : code x ≡ code y). ap (of_z w32) (code_one x y h k e))

-- the tests of two numbers that stand in slices are those of their views
module _ (s t : List ℤ) (i j : ℕ) (h : mag (get_or s i (pos 0)) < 2 ^ 31) (k : mag (get_or t j (pos 0)) < 2 ^ 31) where
  pub view_below : get_or (view s) i 0 < 2 ^ 31 → get_or (view t) j 0 < 2 ^ 31 →
      lt_z (held (get_or s i (pos 0))) (held (get_or t j (pos 0))) ≡ ltb (get_or (view s) i 0) (get_or (view t) j 0)
  view_below p q =
      rw (view_get_or s i, view_get_or t j, back (get_or s i (pos 0)) h, back (get_or t j (pos 0)) k)
      (below (get_or s i (pos 0)) (get_or t j (pos 0)) (rw view_get_or at p) (rw view_get_or at q))

  module _ (p : get_or (view s) i 0 < 2 ^ 31) where
    pub view_less : lt_z (held (get_or s i (pos 0))) (held (get_or t j (pos 0))) ≡ true → true ≡ ltb (get_or (view s) i 0) (get_or (view t) j 0)
    view_less e =
        rw (view_get_or s i, view_get_or t j)
        (less_is (get_or s i (pos 0)) (get_or t j (pos 0)) (rw view_get_or at p) (rw (back (get_or s i (pos 0)) h, back (get_or t j (pos 0)) k) at e))

    pub view_else : lt_z (held (get_or s i (pos 0))) (held (get_or t j (pos 0))) ≡ false → lt_z (held (get_or t j (pos 0))) (pos 0) ≡ ltb (get_or (view s) i 0) (get_or (view t) j 0)
    view_else e =
        rw (view_get_or s i, view_get_or t j, back (get_or t j (pos 0)) k)
        (else_is (get_or s i (pos 0)) (get_or t j (pos 0)) (rw view_get_or at p) (rw (back (get_or s i (pos 0)) h, back (get_or t j (pos 0)) k) at e))

  pub view_equal : eqb (of_z w32 (get_or s i (pos 0))) (of_z w32 (get_or t j (pos 0))) ≡ eqb (get_or (view s) i 0) (get_or (view t) j 0)
  view_equal = rw (view_get_or s i, view_get_or t j) (equal (get_or s i (pos 0)) (get_or t j (pos 0)) h k)

  -- two locals that are the same hold one number of the views
  pub view_same : of_z w32 (get_or s i (pos 0)) ≡ of_z w32 (get_or t j (pos 0)) → get_or (view s) i 0 ≡ get_or (view t) j 0
  view_same e = eqb-true (get_or (view s) i 0) (get_or (view t) j 0) (sym view_equal ∙ eq-eqb (of_z w32 (get_or s i (pos 0))) (of_z w32 (get_or t j (pos 0))) e)

  -- and two numbers of the views that are the same are so as locals
  pub same_view : get_or (view s) i 0 ≡ get_or (view t) j 0 → of_z w32 (get_or s i (pos 0)) ≡ of_z w32 (get_or t j (pos 0))
  same_view e = eqb-true (of_z w32 (get_or s i (pos 0))) (of_z w32 (get_or t j (pos 0))) (view_equal ∙ eq-eqb (get_or (view s) i 0) (get_or (view t) j 0) e)

  -- a number compares with itself
  pub cmp_equal : of_z w32 (get_or s i (pos 0)) ≡ of_z w32 (get_or t j (pos 0)) → Equal ≡ cmp_numbers (get_or (view s) i 0) (get_or (view t) j 0)
  cmp_equal e =
      let v : get_or (view s) i 0 ≡ get_or (view t) j 0 = view_same e in
      rw (v, le-ltb (get_or (view t) j 0) (get_or (view t) j 0) (omega arith))

  module _ (p : get_or (view s) i 0 < 2 ^ 31) (q : get_or (view t) j 0 < 2 ^ 31) where
    pub cmp_less : lt_z (held (get_or s i (pos 0))) (held (get_or t j (pos 0))) ≡ true → Less ≡ cmp_numbers (get_or (view s) i 0) (get_or (view t) j 0)
    cmp_less e = rw (← view_below p q, e)

    -- a number that is neither less nor the other one is greater
    pub cmp_greater : lt_z (held (get_or s i (pos 0))) (held (get_or t j (pos 0))) ≡ false → (of_z w32 (get_or s i (pos 0)) ≡ of_z w32 (get_or t j (pos 0)) → ⊥) →
        Greater ≡ cmp_numbers (get_or (view s) i 0) (get_or (view t) j 0)
    cmp_greater e d =
        let f : ltb (get_or (view s) i 0) (get_or (view t) j 0) ≡ false = sym (view_below p q) ∙ e in
        let n : get_or (view s) i 0 ≢ get_or (view t) j 0 = λ v. d (same_view v) in
        rw (f, lt-ltb (get_or (view t) j 0) (get_or (view s) i 0) (omega (arith, ltb-false (get_or (view s) i 0) (get_or (view t) j 0) f)))
