-- What tests over lists tell, and how one is shown to hold. Assumes nothing.
use mathlib.Core.Path.{◌≡◌, refl, sym, ap, ◌∙◌}
use mathlib.Core.Bool.{Bool, true, false, ◌&&◌, ◌||◌}
use mathlib.Core.List.{List, [], ◌∷◌, ◌++◌, Memᴰ}
use Prim.Native.Nat.{ℕ, zero, suc, ◌<◌}
use native.Mathlib.Omega.{arith}
use borrow.Author.Tests.{ne_eqb}
use lib.Dec.{eqb}
use lib.ListN.{length, get_or}
use Rattle.rules.specs.Lists.{implies, all, any, none}
use Rattle.rules.proofs.Same.{both_true, true_not_false}

-- ---- tests in a row

-- a test and those that follow it all hold
abbrev pub conjoined : Bool → List Bool → Bool
conjoined a [] = a
conjoined a (b ∷ rest) = conjoined (a && b) rest

-- where all of them hold, number k does
pub conjunct : (a : Bool) (rest : List Bool) → conjoined a rest ≡ true → (k : ℕ) → get_or (a ∷ rest) k true ≡ true
conjunct a [] e zero = e
conjunct a [] e (suc k) = refl
conjunct a (b ∷ rest) e zero = (both_true a b (conjunct (a && b) rest e zero)).0
conjunct a (b ∷ rest) e (suc zero) = (both_true a b (conjunct (a && b) rest e zero)).1
conjunct a (b ∷ rest) e (suc (suc k)) = conjunct (a && b) rest e (suc k)

-- two tests hold, if each one does
pub true_both : {a b : Bool} → a ≡ true → b ≡ true → a && b ≡ true
true_both e f = rw (e, f)

-- a test follows from another, if it holds where that one does
pub true_implies : (a b : Bool) → (a ≡ true → b ≡ true) → implies a b ≡ true
true_implies true b f = f refl
true_implies false b f = refl

-- where a test follows from another that holds, it holds
pub implied : (a b : Bool) → implies a b ≡ true → a ≡ true → b ≡ true
implied true b e f = e
implied false b e f = cc

-- one of two tests holds, if the second does where the first fails
pub true_either : (a b : Bool) → (a ≡ false → b ≡ true) → a || b ≡ true
true_either true b f = refl
true_either false b f = f refl

-- ---- a test of every element

-- a list that tests as empty is empty
pub none_true : {A : Type 0} {l : List A} → none l ≡ true → l ≡ []
unfolding none
none_true {l = []} e = refl
none_true {l = x ∷ l} e = cc

module _ {A : Type 0} where
  -- a list without length is empty
  pub no_length : (l : List A) → length l ≡ 0 → l ≡ []
  no_length [] e = refl
  no_length (x ∷ l) e = absurd (omega arith)

  -- it tests as empty
  pub none_empty : (l : List A) → length l ≡ 0 → none l ≡ true
  unfolding none
  none_empty [] e = refl
  none_empty (x ∷ l) e = absurd (omega arith)

  -- any other does not
  pub none_some : (l : List A) → 0 < length l → none l ≡ false
  unfolding none
  none_some [] h = absurd (omega arith)
  none_some (x ∷ l) h = refl

  -- a list tests as empty if its length tests as 0
  pub none_counted : (l : List A) → none l ≡ eqb (length l) 0
  unfolding none
  none_counted [] = refl
  none_counted (x ∷ l) = sym (ne_eqb (suc (length l)) 0 (λ e. omega arith))

module _ {A : Type 0} (test : A → Bool) where
  -- the element that stands at a place passes, where all do
  each_passes : (x : A) {l : List A} → Memᴰ x l → all test l ≡ true → test x ≡ true
  unfolding all
  each_passes x (Memᴰ.head {x = y} {xs = l} d) e = ap test d ∙ (both_true (test y) (all test l) e).0
  each_passes x (Memᴰ.tail {x = y} {xs = l} m) e = each_passes x m (both_true (test y) (all test l) e).1

  -- where all elements pass, each one does
  pub all_each : {l : List A} → all test l ≡ true → (x : A) → Memᴰ x l → test x ≡ true
  all_each e x m = each_passes x m e

  -- where each element passes, all do
  pub each_all : (l : List A) → ((x : A) → Memᴰ x l → test x ≡ true) → all test l ≡ true
  unfolding all
  each_all [] f = refl
  each_all (x ∷ l) f = true_both (f x (Memᴰ.head refl)) (each_all l (λ y m. f y (Memᴰ.tail m)))

  -- all elements of two lists pass, if those of each do
  pub all_append : (p q : List A) → all test (p ++ q) ≡ all test p && all test q
  unfolding all
  all_append [] q = refl
  all_append (x ∷ p) q = go (test x) (all_append p q)
    where
      go : (b : Bool) → all test (p ++ q) ≡ all test p && all test q → b && all test (p ++ q) ≡ (b && all test p) && all test q
      go true e = e
      go false e = refl

  -- where all elements pass, the one at an index does
  pub all_at : (l : List A) (d : A) → all test l ≡ true → (k : ℕ) → k < length l → test (get_or l k d) ≡ true
  unfolding all
  all_at [] d e k h = absurd (omega arith)
  all_at (x ∷ l) d e zero h = (both_true (test x) (all test l) e).0
  all_at (x ∷ l) d e (suc k) h = all_at l d (both_true (test x) (all test l) e).1 k (omega arith)

  -- where some element passes, there is one that does
  pub any_true : (l : List A) → any test l ≡ true → (x : A) × Memᴰ x l × (test x ≡ true)
  unfolding any
  any_true [] e = absurd (true_not_false e refl)
  any_true (y ∷ l) e = by (test y) refl (any_true l) e
    where
      by : (t : Bool) → test y ≡ t → (any test l ≡ true → (x : A) × Memᴰ x l × (test x ≡ true)) → t || any test l ≡ true → (x : A) × Memᴰ x (y ∷ l) × (test x ≡ true)
      by true f rest h = (y, Memᴰ.head refl, f)
      by false f rest h = let k = rest h in (k.0, Memᴰ.tail k.1, k.2)

  -- where an element passes, some does
  pub true_any : {x : A} {l : List A} → Memᴰ x l → test x ≡ true → any test l ≡ true
  unfolding any
  true_any (Memᴰ.head d) e = rw (ap test (sym d) ∙ e)
  true_any (Memᴰ.tail {x = y} {xs = l} m) e = true_either (test y) (any test l) (λ _. true_any m e)
