-- How large the extents of a sound layout are. Assumes nothing.
use mathlib.Core.Path.{◌≡◌, refl}
use mathlib.Core.List.{List, [], ◌∷◌}
use Prim.Native.Nat.{ℕ, zero, suc, ◌*◌, ◌≤◌, ◌<◌}
use native.Mathlib.Nat.{zero-mul, one-mul, mul_comm, mul_left_comm, mul-pos, mul-le-mul_left, le-mul_of_pos_right, le_trans}
use native.Mathlib.Omega.{arith}
use borrow.Author.Tests.{eq-eqb, ne_eqb}
use lib.ListN.{get_or, take}
use Rattle.rules.specs.Limits.{product_limit}
use Rattle.rules.specs.Lists.{keep, product}
use Rattle.rules.specs.Layout.{Layout, nonzero_product}
use Rattle.rules.specs.Soundness.{WithinSizes}

-- a zero is left out
pub nonzero_zero : (e : ℕ) (shape : List ℕ) → e ≡ 0 → nonzero_product (e ∷ shape) ≡ nonzero_product shape
unfolding keep
nonzero_zero e shape z = rw (eq-eqb e 0 z)

-- every other extent is a factor
pub nonzero_more : (e : ℕ) (shape : List ℕ) → (e ≡ 0 → ⊥) → nonzero_product (e ∷ shape) ≡ e * nonzero_product shape
unfolding product keep
nonzero_more e shape n = rw (ne_eqb e 0 n)

nonzero_suc : (e : ℕ) (shape : List ℕ) → nonzero_product (suc e ∷ shape) ≡ suc e * nonzero_product shape
nonzero_suc e shape = nonzero_more (suc e) shape (λ z. omega arith)

-- what an extent counts among those that are not zero
abbrev factor : ℕ → ℕ
factor zero = 1
factor (suc e) = suc e

nonzero_factor : (e : ℕ) (shape : List ℕ) → nonzero_product (e ∷ shape) ≡ factor e * nonzero_product shape
nonzero_factor zero shape = rw one-mul (nonzero_zero zero shape refl)
nonzero_factor (suc e) shape = nonzero_suc e shape

factor_pos : (e : ℕ) → 0 < factor e
factor_pos zero = omega arith
factor_pos (suc e) = omega arith

-- one more extent in front of both keeps the order of two products
pub nonzero_cons : (e : ℕ) (s t : List ℕ) → nonzero_product s ≤ nonzero_product t → nonzero_product (e ∷ s) ≤ nonzero_product (e ∷ t)
nonzero_cons e s t h = rw (nonzero_factor e s, nonzero_factor e t) (mul-le-mul_left (factor e) h)

-- one more extent does not make a product less
pub nonzero_more_axes : (e : ℕ) (shape : List ℕ) → nonzero_product shape ≤ nonzero_product (e ∷ shape)
nonzero_more_axes e shape = rw (nonzero_factor, mul_comm (factor e)) (le-mul_of_pos_right (nonzero_product shape) (factor_pos e))

-- two extents may change places
pub nonzero_swap : (d e : ℕ) (shape : List ℕ) → nonzero_product (d ∷ e ∷ shape) ≡ nonzero_product (e ∷ d ∷ shape)
nonzero_swap d e shape =
    rw (nonzero_factor d (e ∷ shape), nonzero_factor e shape, nonzero_factor e (d ∷ shape), nonzero_factor d shape)
    (mul_left_comm (factor d) (factor e) (nonzero_product shape))

-- the product of the extents that are not zero is not zero
pub nonzero_pos : (shape : List ℕ) → 0 < nonzero_product shape
unfolding product keep
nonzero_pos [] = omega arith
nonzero_pos (zero ∷ shape) = nonzero_pos shape
nonzero_pos (suc e ∷ shape) = rw nonzero_suc (mul-pos {m = suc e} (omega arith) (nonzero_pos shape))

-- an extent times the product of those behind it is at most their product
pub nonzero_most : (e : ℕ) (shape : List ℕ) → e * nonzero_product shape ≤ nonzero_product (e ∷ shape)
nonzero_most zero shape = rw zero-mul (omega arith)
nonzero_most (suc e) shape = rw nonzero_suc (omega arith)

-- the product of all extents is at most that of those that are not zero
pub product_nonzero : (shape : List ℕ) → product shape ≤ nonzero_product shape
unfolding product keep
product_nonzero [] = omega arith
product_nonzero (e ∷ shape) = le_trans (mul-le-mul_left e (product_nonzero shape)) (nonzero_most e shape)

-- the product of the first extents is at most that of all
pub nonzero_take : (k : ℕ) (shape : List ℕ) → nonzero_product (take k shape) ≤ nonzero_product shape
unfolding product keep
nonzero_take zero shape = nonzero_pos shape
nonzero_take (suc k) [] = omega arith
nonzero_take (suc k) (zero ∷ shape) = nonzero_take k shape
nonzero_take (suc k) (suc e ∷ shape) = rw (nonzero_suc e (take k shape), nonzero_suc e shape) (mul-le-mul_left (suc e) (nonzero_take k shape))

-- an extent is at most the product of those that are not zero, also a missing one that counts 1
pub extent_nonzero : (shape : List ℕ) (k d : ℕ) → d ≤ 1 → get_or shape k d ≤ nonzero_product shape
unfolding product keep
extent_nonzero [] k d h = h
extent_nonzero (zero ∷ shape) zero d h = omega arith
extent_nonzero (zero ∷ shape) (suc k) d h = extent_nonzero shape k d h
extent_nonzero (suc e ∷ shape) zero d h = rw nonzero_suc (le-mul_of_pos_right (suc e) (nonzero_pos shape))
extent_nonzero (suc e ∷ shape) (suc k) d h =
    le_trans (extent_nonzero shape k d h) (rw (nonzero_suc, mul_comm (suc e)) (le-mul_of_pos_right {m = suc e} (nonzero_product shape) (omega arith)))

module _ {l : Layout} (w : WithinSizes l) where
  -- the product of all extents is at most 65,536
  pub product_limited : product l.shape ≤ product_limit
  product_limited = le_trans (product_nonzero l.shape) w.product_most

  -- each extent is at most 65,536
  pub extent_limited : (k : ℕ) → get_or l.shape k 0 ≤ product_limit
  extent_limited k = le_trans (extent_nonzero l.shape k 0 (omega arith)) w.product_most
