-- What is kept of a list by a test, and rows that are. Assumes nothing.
use mathlib.Core.Path.{◌≡◌, refl, sym, ap, ◌∙◌}
use mathlib.Core.Bool.{Bool, true, false}
use mathlib.Core.List.{List, [], ◌∷◌, Memᴰ}
use Prim.Native.Nat.{ℕ, ◌≤◌}
use native.Mathlib.Omega.{arith}
use lib.ListN.{length}
use Rattle.rules.specs.Lists.{keep}
use Rattle.rules.specs.RowsInOrder.{Each, Increasing, increasing_nil, increasing_cons}
use Rattle.rules.proofs.Sets.{each_nil, each_cons, Subset}

module _ {A : Type 0} (test : A → Bool) where
  -- what passes is kept
  pub keep_pass : {x : A} (t : List A) → test x ≡ true → keep test (x ∷ t) ≡ x ∷ keep test t
  unfolding keep
  keep_pass t e = rw e

  -- what fails is not kept
  pub keep_fail : {x : A} (t : List A) → test x ≡ false → keep test (x ∷ t) ≡ keep test t
  unfolding keep
  keep_fail t e = rw e

  -- every element that passes is kept
  pub keep_has : {x : A} {t : List A} → Memᴰ x t → test x ≡ true → Memᴰ x (keep test t)
  keep_has {x} (Memᴰ.head {x = y} {xs = t} e) p = rw (keep_pass t (ap test (sym e) ∙ p)) (Memᴰ.head e)
  keep_has {x} (Memᴰ.tail {x = y} {xs = t} m) p = go (test y) refl (keep_has m p)
    where
      go : (b : Bool) → test y ≡ b → Memᴰ x (keep test t) → Memᴰ x (keep test (y ∷ t))
      go true e rest = rw keep_pass (Memᴰ.tail rest)
      go false e rest = rw keep_fail rest

module _ (test : List ℕ → Bool) where
  -- the rows that are kept are among the rows
  pub keep_only : (t : List (List ℕ)) → Subset (keep test t) t
  unfolding keep
  keep_only [] = each_nil _
  keep_only (x ∷ t) = go (test x) refl (λ r m. Memᴰ.tail (keep_only t r m))
    where
      go : (b : Bool) → test x ≡ b → Subset (keep test t) (x ∷ t) → Subset (keep test (x ∷ t)) (x ∷ t)
      go true e rest = rw keep_pass (each_cons (Memᴰ.head refl) rest)
      go false e rest = rw keep_fail rest

  -- the rows that are kept pass
  pub keep_passes : (t : List (List ℕ)) → Each (λ r. test r ≡ true) (keep test t)
  unfolding keep
  keep_passes [] = each_nil _
  keep_passes (x ∷ t) = go (test x) refl (keep_passes t)
    where
      go : (b : Bool) → test x ≡ b → Each (λ r. test r ≡ true) (keep test t) → Each (λ r. test r ≡ true) (keep test (x ∷ t))
      go true e rest = rw keep_pass (each_cons e rest)
      go false e rest = rw keep_fail rest

  -- the rows that are kept increase if the rows do
  pub keep_increasing : {t : List (List ℕ)} → Increasing t → Increasing (keep test t)
  unfolding keep
  keep_increasing increasing_nil = increasing_nil
  keep_increasing (increasing_cons {x} {t} l i) = go (test x) refl (keep_increasing i)
    where
      go : (b : Bool) → test x ≡ b → Increasing (keep test t) → Increasing (keep test (x ∷ t))
      go true e rest = rw keep_pass (increasing_cons (λ r m. l r (keep_only t r m)) rest)
      go false e rest = rw keep_fail rest

  -- the rows that are kept are not more
  pub keep_length : (t : List (List ℕ)) → length (keep test t) ≤ length t
  unfolding keep
  keep_length [] = omega arith
  keep_length (x ∷ t) = go (test x) refl (keep_length t)
    where
      go : (b : Bool) → test x ≡ b → length (keep test t) ≤ length t → length (keep test (x ∷ t)) ≤ length (x ∷ t)
      go true e rest = rw keep_pass (omega arith)
      go false e rest = rw keep_fail (omega arith)
