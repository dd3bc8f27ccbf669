-- Tests of sameness tell what they say, and agree with the order of rows. Assumes nothing.
use mathlib.Core.Path.{◌≡◌, refl, sym, ap, ◌∙◌}
use mathlib.Core.Bool.{Bool, true, false, ◌&&◌, ◌||◌}
use mathlib.Core.List.{List, [], ◌∷◌}
use Prim.Native.Nat.{ℕ}
use native.Mathlib.Omega.{arith}
use borrow.Author.Tests.{eqb-true, eqb-false, eq-eqb, ne_eqb}
use lib.Dec.{eqb}
use lib.ListN.{length}
use Rattle.std.specs.declared.cmp.Ordering.TheVariants.{Equal}
use Rattle.rules.specs.Lists.{same, same_rows}
use Rattle.rules.specs.RowsInOrder.{cmp_rows}
use Rattle.rules.proofs.Order.{cmp_same, cmp_equal}

-- ---- two tests

-- where both hold, each one does
pub both_true : (a b : Bool) → a && b ≡ true → (a ≡ true) × (b ≡ true)
both_true true b e = (refl, e)
both_true false b e = (e, cc)

-- where neither holds, each one fails
pub neither : (a b : Bool) → a || b ≡ false → (a ≡ false) × (b ≡ false)
neither true b e = (e, cc)
neither false b e = (refl, e)

-- no test is both
pub true_not_false : {a : Bool} → a ≡ true → a ≡ false → ⊥
true_not_false e f = let z : ◌≡◌ {A = ℕ} 0 1 = cc in omega arith

-- two tests that hold together are one
pub decided : (a b : Bool) → (a ≡ true → b ≡ true) → (b ≡ true → a ≡ true) → a ≡ b
decided true b f g = sym (f refl)
decided false true f g = g refl
decided false false f g = refl

-- two tests of numbers that hold together are one
pub one_test : (a b c d : ℕ) → (a ≡ b → c ≡ d) → (c ≡ d → a ≡ b) → eqb a b ≡ eqb c d
one_test a b c d f g = go (eqb a b) refl
  where
    go : (t : Bool) → eqb a b ≡ t → eqb a b ≡ eqb c d
    go true e = e ∙ sym (eq-eqb c d (f (eqb-true a b e)))
    go false e = e ∙ sym (ne_eqb c d (λ (u : c ≡ d). eqb-false a b e (g u)))

-- ---- two lists

-- lists that test the same are the same
pub same_true : {p q : List ℕ} → same p q ≡ true → p ≡ q
unfolding same
same_true {p = []} {q = []} e = refl
same_true {p = []} {q = y ∷ q} e = cc
same_true {p = x ∷ p} {q = []} e = cc
same_true {p = x ∷ p} {q = y ∷ q} e =
    let h = both_true (eqb x y) (same p q) e in
    let rest : p ≡ q = same_true h.1 in
    cc (eqb-true x y h.0)

-- lists of two lengths do not test the same
pub lengths_differ : (p q : List ℕ) → (length p ≡ length q → ⊥) → same p q ≡ false
lengths_differ p q n = go (same p q) refl
  where
    go : (t : Bool) → same p q ≡ t → t ≡ false
    go true e = absurd (n (ap length (same_true e)))
    go false e = refl

-- a list tests the same as itself
pub same_refl : (p : List ℕ) → same p p ≡ true
unfolding same
same_refl [] = refl
same_refl (x ∷ p) = rw (eq-eqb x x refl) (same_refl p)

-- what tests the same compares as equal
pub same_cmp : (p q : List ℕ) → same p q ≡ true → cmp_rows p q ≡ Equal
same_cmp p q e = rw (same_true e) (cmp_same q)

-- what compares as equal tests the same
pub cmp_same_true : (p q : List ℕ) → cmp_rows p q ≡ Equal → same p q ≡ true
cmp_same_true p q e = rw (cmp_equal e) (same_refl q)

-- ---- two lists of rows

-- lists of rows that test the same are the same
pub same_rows_true : {t u : List (List ℕ)} → same_rows t u ≡ true → t ≡ u
unfolding same_rows
same_rows_true {t = []} {u = []} e = refl
same_rows_true {t = []} {u = q ∷ u} e = cc
same_rows_true {t = p ∷ t} {u = []} e = cc
same_rows_true {t = p ∷ t} {u = q ∷ u} e =
    let h = both_true (same p q) (same_rows t u) e in
    let first : p ≡ q = same_true h.0 in
    let rest : t ≡ u = same_rows_true h.1 in
    cc

-- a list of rows tests the same as itself
pub same_rows_refl : (t : List (List ℕ)) → same_rows t t ≡ true
unfolding same_rows
same_rows_refl [] = refl
same_rows_refl (p ∷ t) = rw (same_refl p) (same_rows_refl t)
