-- Which number was read as a kind. Assumes nothing.
use mathlib.Core.Path.{◌≡◌, refl, sym, ap, ◌∙◌}
use mathlib.Core.Bool.{true, false}
use Prim.Native.Nat.{ℕ, zero, suc, ◌≤◌}
use native.Mathlib.Omega.{arith}
use borrow.Author.Tests.{ne_eqb}
use Rattle.rules.specs.declared.Kind.{Kind}
use Rattle.rules.specs.declared.Kind.TheVariants.{Dense, Diagonal, Sparse}
use Rattle.rules.specs.Layout.{kind_of}

-- any number above 1 is read as sparse
above : (n : ℕ) → kind_of (suc (suc n)) ≡ Sparse
unfolding kind_of
above n = rw (ne_eqb (suc (suc n)) 0 (λ z. omega arith), ne_eqb (suc (suc n)) 1 (λ z. omega arith))

module _ {k : Kind} where
  pub dense_number : {n : ℕ} → k ≡ kind_of n → k ≡ Dense → n ≡ 0
  unfolding kind_of
  dense_number {n = zero} e f = refl
  dense_number {n = suc zero} e f = cc (sym e ∙ f)
  dense_number {n = suc (suc n)} e f = cc (sym f ∙ e ∙ above n)

  pub diagonal_number : {n : ℕ} → k ≡ kind_of n → k ≡ Diagonal → n ≡ 1
  unfolding kind_of
  diagonal_number {n = zero} e f = cc (sym e ∙ f)
  diagonal_number {n = suc zero} e f = refl
  diagonal_number {n = suc (suc n)} e f = cc (sym f ∙ e ∙ above n)

  -- of a number that is one of the three
  pub sparse_number : {n : ℕ} → k ≡ kind_of n → k ≡ Sparse → n ≤ 2 → n ≡ 2
  unfolding kind_of
  sparse_number {n = zero} e f h = cc (sym e ∙ f)
  sparse_number {n = suc zero} e f h = cc (sym e ∙ f)
  sparse_number {n = suc (suc n)} e f h = omega arith

  module _ {n : ℕ} (e : k ≡ kind_of n) where
    -- what the number is not
    pub not_dense : (k ≡ Dense → ⊥) → n ≡ 0 → ⊥
    unfolding kind_of
    not_dense f z = f (e ∙ ap kind_of z)

    pub not_diagonal : (k ≡ Diagonal → ⊥) → n ≡ 1 → ⊥
    unfolding kind_of
    not_diagonal f z = f (e ∙ ap kind_of z)

    pub not_sparse : (k ≡ Sparse → ⊥) → n ≡ 2 → ⊥
    unfolding kind_of
    not_sparse f z = f (e ∙ ap kind_of z)

    pub sparse_not_dense : k ≡ Sparse → n ≡ 0 → ⊥
    unfolding kind_of
    sparse_not_dense f z = let w : ◌≡◌ {A = ℕ} 0 1 = cc (sym f ∙ e ∙ ap kind_of z) in omega arith

    pub sparse_not_diagonal : k ≡ Sparse → n ≡ 1 → ⊥
    unfolding kind_of
    sparse_not_diagonal f z = let w : ◌≡◌ {A = ℕ} 0 1 = cc (sym f ∙ e ∙ ap kind_of z) in omega arith

    pub diagonal_not_dense : k ≡ Diagonal → n ≡ 0 → ⊥
    diagonal_not_dense f z = omega (arith, diagonal_number e f)

pub ruleset kind_laws = (dense_number, diagonal_number, sparse_number, not_dense, not_diagonal, not_sparse, sparse_not_dense, sparse_not_diagonal)
