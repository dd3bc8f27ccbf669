-- `within_product` and `product`: the extents so far, times those to come. Assumes nothing.
use mathlib.Core.Path.{◌≡◌, sym, ◌∙◌}
use mathlib.Core.Bool.{true, false}
use mathlib.Core.List.{List, ◌∷◌}
use Prim.Native.Nat.{ℕ, ◌+◌, ◌*◌, ◌^◌, ◌<◌, ◌≤◌}
use native.Mathlib.Nat.{mul_assoc, mul-one, one-mul, mul-pos, mul-le-mul, mul-le-mul_left, le-mul_of_pos_right, le_trans, lt_of_le_of_lt, lt_of_lt_of_le, le_of_lt, pos_of_ne-zero}
use native.Mathlib.Numerals.{add-one}
use native.Mathlib.Omega.{arith}
use borrow.Author.Tests.{le-leb, lt-leb, leb-true}
use lib.Dec.{leb, lit<}
use lib.IntN.{ℤ}
use lib.ListN.{length, get_or, drop, drop_of_length-le}
use lib.Seq.{drop-cons}
use mir.Syntax.{w64}
use mir.Val.{Fits}
use Rattle.rules.specs.Limits.{product_limit}
use Rattle.rules.specs.Lists.{keep, product}
use Rattle.rules.specs.Layout.{within_product, nonzero_product}
use Rattle.rules.proofs.Extents.{nonzero_zero, nonzero_more, nonzero_pos, nonzero_most}
use Rattle.cells.specs.View.{view}
use Rattle.tables.specs.Rows.{row_at}
use Rattle.tables.proofs.Rows.{row_length, row_number}
use Rattle.axes.specs.Extents.{Extents}

-- an extent that was read is the one at its place
pub extent_read : (at n k : ℕ) (s : List ℤ) {x : ℕ} → k < n → x ≡ get_or (view s) (at + k) 0 → x ≡ get_or (row_at at n s) k 0
extent_read at n k s h e = e ∙ sym (row_number at n k s h)

-- ---- the product of those that are not zero

-- p is the product of those of the first k of n extents that are not zero, and within the limit
pub record Limited (n k p : ℕ) (l : List ℕ) : Type 0 where
  pub upto : k ≤ n
  pub size : length l ≡ n
  pub some : 0 < p
  pub within : p ≤ 65536
  pub eq : within_product l ≡ leb (p * nonzero_product (drop k l)) 65536

-- the product of none
pub limit_start : {n : ℕ} {l : List ℕ} → length l ≡ n → Limited n 0 1 l
unfolding within_product
limit_start e = record { upto = omega arith; size = e; some = omega arith; within = omega arith; eq = rw one-mul }

module _ {n k p : ℕ} {l : List ℕ} (m : Limited n k p l) where
  -- the product with one extent more does not wrap
  pub limit_fits : {x : ℕ} → x < 2 ^ 32 → Fits w64 (p * x)
  limit_fits h = record { fits = lt_of_le_of_lt (mul-le-mul m.within (le_of_lt h)) (lit< tt) }

  module _ {x : ℕ} (h : k < n) (e : x ≡ get_or l k 0) where
    -- extent k is next
    next : drop k l ≡ x ∷ drop (k + 1) l
    next = let inside : k < length l = omega (arith, m.size) in rw (add-one, drop-cons l k 0, ← e)

    -- a zero is left out
    pub limit_skip : x ≡ 0 → Limited n (k + 1) p l
    limit_skip z = record {
      upto = omega arith;
      size = m.size;
      some = m.some;
      within = m.within;
      eq = m.eq ∙ rw (next, nonzero_zero x (drop (k + 1) l) z);
    }

    module _ (z : x ≡ 0 → ⊥) where
      -- any other extent is taken in
      more : within_product l ≡ leb (p * x * nonzero_product (drop (k + 1) l)) 65536
      more = m.eq ∙ rw (next, nonzero_more x (drop (k + 1) l) z, mul_assoc)

      -- the product stays within the limit
      pub limit_turn : p * x ≤ 65536 → Limited n (k + 1) (p * x) l
      limit_turn i = record { upto = omega arith; size = m.size; some = mul-pos m.some (pos_of_ne-zero z); within = i; eq = more }

      -- the product passes the limit, and stays above it
      pub limit_stop : 65536 < p * x → false ≡ within_product l
      limit_stop i =
          let rest : ℕ = nonzero_product (drop (k + 1) l) in
          sym (more ∙ lt-leb (p * x * rest) 65536 (lt_of_lt_of_le i (le-mul_of_pos_right (p * x) (nonzero_pos (drop (k + 1) l)))))

  -- all have been taken in
  pub limit_done : n ≤ k → true ≡ within_product l
  unfolding keep product
  limit_done h = sym (m.eq ∙ rw (drop_of_length-le l {i = k} (omega (arith, m.size)), mul-one p) (le-leb p 65536 m.within))

pub ruleset limits = (limit_start, limit_fits, limit_skip, limit_turn, limit_stop, limit_done, row_length, extent_read)

-- ---- the product of all

-- p is the product of the first k of n extents, and stays within the limit whatever else but zeros is multiplied in
pub record Multiplied (n k p : ℕ) (l : List ℕ) : Type 0 where
  pub upto : k ≤ n
  pub size : length l ≡ n
  pub limited : p * nonzero_product (drop k l) ≤ 65536
  pub eq : product l ≡ p * product (drop k l)

-- the product of none
pub product_start : {at rank : ℕ} {s : List ℤ} → Extents at rank s → Multiplied rank 0 1 (row_at at rank s)
unfolding within_product
product_start {at} {rank} {s} x = record {
  upto = omega arith;
  size = row_length at rank s x.room;
  limited = rw one-mul (leb-true (nonzero_product (row_at at rank s)) product_limit x.within);
  eq = sym (one-mul (product (row_at at rank s)));
}

module _ {n k p : ℕ} {l : List ℕ} (m : Multiplied n k p l) where
  -- it does not wrap with one extent more
  pub product_fits : {x : ℕ} → x < 2 ^ 32 → Fits w64 (p * x)
  product_fits h =
      let low : p ≤ 65536 = le_trans (le-mul_of_pos_right p (nonzero_pos (drop k l))) m.limited in
      record { fits = lt_of_le_of_lt (mul-le-mul low (le_of_lt h)) (lit< tt) }

  -- one extent more
  pub product_turn : {x : ℕ} → k < n → x ≡ get_or l k 0 → Multiplied n (k + 1) (p * x) l
  unfolding product
  product_turn {x} h e =
      let inside : k < length l = omega (arith, m.size) in
      let next : drop k l ≡ x ∷ drop (k + 1) l = rw (add-one, e) (drop-cons l k 0 inside) in
      record {
        upto = omega arith;
        size = m.size;
        limited = rw mul_assoc (le_trans (mul-le-mul_left p (nonzero_most x (drop (k + 1) l))) (rw next at m.limited));
        eq = rw mul_assoc (rw next at m.eq);
      }

  -- all extents
  pub product_done : n ≤ k → p ≡ product l
  unfolding product
  product_done h = sym (m.eq ∙ rw (drop_of_length-le l {i = k} (omega (arith, m.size)), mul-one))

pub ruleset products = (product_start, product_fits, product_turn, product_done, extent_read)
