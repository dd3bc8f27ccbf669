-- `unravel_into`: the components from k on are written, and `left` is what the axes before them have to count. Assumes nothing.
use mathlib.Core.Path.{◌≡◌, refl, sym, ap, ◌∙◌}
use mathlib.Core.Bool.{true, false}
use mathlib.Core.List.{List, [], ◌∷◌, map}
use Prim.Native.Nat.{ℕ, zero, suc, ◌+◌, ◌-◌, ◌*◌, ◌/◌, ◌%◌, ◌^◌, ◌<◌, ◌≤◌}
use native.Mathlib.Nat.{div-one, div-div-eq-div-mul, mul_comm, mul_assoc, add-mul, suc-mul, zero-mul, mul-zero, mul-le-mul_right, mod-lt, mod-one, mod-eq_of_lt, mul-add-mod_self_right, div-add-mod'}
use native.Mathlib.Omega.{arith}
use borrow.Author.Tests.{ne_eqb, lt-ltb, leb-true}
use lib.Dec.{eqb}
use lib.IntN.{ℤ, pos}
use lib.ListN.{length, get_or, drop, set, drop_of_length-le}
use lib.Seq.{drop-cons}
use Rattle.rules.specs.Limits.{product_limit}
use Rattle.rules.specs.Lists.{any, product, all_below}
use Rattle.rules.specs.Buffers.{put}
use Rattle.rules.specs.Layout.{within_product, nonzero_product}
use Rattle.rules.specs.Positions.{ravel_index, unravel}
use Rattle.rules.specs.Removal.{positions}
use Rattle.rules.proofs.Extents.{extent_nonzero}
use Rattle.rules.proofs.Indices.{positions_ravel}
use Rattle.rules.proofs.Same.{true_not_false}
use Rattle.rules.proofs.Tests.{true_both}
use Rattle.cells.specs.View.{view}
use Rattle.cells.proofs.Written.{Written, nothing, before}
use Rattle.tables.specs.Rows.{row_at}
use Rattle.tables.proofs.Rows.{row_length, row_number}
use Rattle.axes.specs.Extents.{IndexAsked}

-- ---- extents that are not zero

-- where none is zero, each one is a divisor
extent_pos : (l : List ℕ) (k : ℕ) → any (eqb 0) l ≡ false → k < length l → 0 < get_or l k 0
unfolding any
extent_pos [] k e h = absurd (omega arith)
extent_pos (zero ∷ l) k e h = absurd (true_not_false refl e)
extent_pos (suc x ∷ l) zero e h = omega arith
extent_pos (suc x ∷ l) (suc k) e h = extent_pos l k (rw (ne_eqb 0 (suc x) (λ (z : 0 ≡ suc x). omega arith)) at e) (omega arith)

-- no factor of a product that is not zero is
pub factors : (e p : ℕ) → 0 < e * p → (0 < e) × (0 < p)
factors zero p h = absurd (omega (arith, zero-mul p))
factors (suc e) zero h = absurd (omega (arith, mul-zero (suc e)))
factors (suc e) (suc p) h = (omega arith, omega arith)

-- no extent is zero where their product is not
pub none_zero : (l : List ℕ) → 0 < product l → any (eqb 0) l ≡ false
unfolding any product
none_zero [] h = refl
none_zero (zero ∷ l) h = absurd (omega (arith, (factors 0 (product l) h).0))
none_zero (suc x ∷ l) h = rw (ne_eqb 0 (suc x) (λ (z : 0 ≡ suc x). omega arith)) (none_zero l (factors (suc x) (product l) h).1)

-- ---- the walk

pub record Unraveling (number at rank : ℕ) (s : List ℤ) (to : ℕ) (old : List ℤ) (left k : ℕ) (now : List ℤ) : Type 0 where
  pub asked : IndexAsked at rank s to old
  pub upto : k ≤ rank
  pub left_is : left ≡ number / product (drop k (row_at at rank s))
  pub written : Written (to + k) (map pos (unravel number (drop k (row_at at rank s)))) old now

module _ {number at rank : ℕ} {s : List ℤ} {to : ℕ} {old : List ℤ} where
  pub start : IndexAsked at rank s to old → Unraveling number at rank s to old number rank old
  unfolding product unravel
  start a =
      let none : drop rank (row_at at rank s) ≡ [] = drop_of_length-le (row_at at rank s) {i = rank} (omega (arith, row_length at rank s a.extents.room)) in
      record {
        asked = a;
        upto = omega arith;
        left_is = rw (none, div-one number);
        written = rw none (nothing (to + rank) old a.room);
      }

  module _ {left k : ℕ} {now : List ℤ} (u : Unraveling number at rank s to old left k now) (h : 0 < k) where
    -- there is room for the next component
    pub room : to + (k - 1) < length now
    room = let l = u.upto in omega (arith, u.written.size, u.asked.room)

    module _ {e : ℕ} (is : e ≡ get_or (view s) (at + (k - 1)) 0) where
      shape : List ℕ
      shape = row_at at rank s

      there : k - 1 < length shape
      unfolding shape
      there = let l = u.upto in omega (arith, row_length at rank s u.asked.extents.room)

      extent_is : e ≡ get_or shape (k - 1) 0
      unfolding shape
      extent_is = let l = u.upto in is ∙ sym (row_number at rank (k - 1) s (omega arith))

      -- the extent divides
      pub divides : 0 < e
      unfolding shape
      divides = rw extent_is (extent_pos shape (k - 1) u.asked.nonzero there)

      -- the component is small
      pub digit_fits : left % e < 2 ^ 31
      unfolding shape within_product
      digit_fits =
          omega (arith, mod-lt left divides, extent_is, extent_nonzero shape (k - 1) 0 (omega arith), leb-true (nonzero_product shape) product_limit u.asked.extents.within)

      pub turn : {next : List ℤ} → next ≡ set now (to + (k - 1)) (pos (left % e)) → Unraveling number at rank s to old (left / e) (k - 1) next
      unfolding shape product unravel
      turn stored =
          let after : ℕ = product (drop k shape) in
          let back : suc (k - 1) ≡ k = omega arith in
          let one : drop (k - 1) shape ≡ e ∷ drop k shape = rw (back, ← extent_is) at (drop-cons shape (k - 1) 0 there) in
          let place : to + k ≡ suc (to + (k - 1)) = omega arith in
          record {
            asked = u.asked;
            upto = let l = u.upto in omega arith;
            left_is = rw (one, u.left_is, mul_comm e after) (div-div-eq-div-mul number after e);
            written = rw (stored, one, ← u.left_is) (before (rw place at u.written) (pos (left % e)));
          }

  pub done : {left k : ℕ} {now : List ℤ} → Unraveling number at rank s to old left k now → k ≤ 0 → now ≡ put to (map pos (unravel number (row_at at rank s))) old
  done {k = k} u h = let z : k ≡ 0 = omega arith in let p : to + k ≡ to = omega arith in rw (p, z) at u.written.is

pub ruleset laws = (start, room, divides, digit_fits, turn, done)

-- ---- the number of the index of a number

-- the remainder by a product, from both remainders
mod_both : (n e p : ℕ) → 0 < e → 0 < p → n / p % e * p + n % p ≡ n % (e * p)
mod_both n e p h l =
    let q : ℕ = n / p in
    let x : ℕ = q % e * p + n % p in
    let low : suc (q % e) * p ≤ e * p = mul-le-mul_right p (mod-lt q h) in
    let below : x < e * p = omega (arith, suc-mul (q % e) p, mod-lt n l) in
    let whole : n ≡ q / e * (e * p) + x =
    omega (arith, div-add-mod' n p, ap (λ (m : ℕ). m * p) (div-add-mod' q e), add-mul (q / e * e) (q % e) p, mul_assoc (q / e) e p) in
    sym (ap (λ (m : ℕ). m % (e * p)) whole ∙ mul-add-mod_self_right (q / e) (e * p) x ∙ mod-eq_of_lt below)

-- an index that was unravelled has as many components as there are extents, all below them
pub unravel_length : (n : ℕ) (shape : List ℕ) → length (unravel n shape) ≡ length shape
unfolding unravel
unravel_length n [] = refl
unravel_length n (e ∷ shape) = ap suc (unravel_length n shape)

unravel_below : (n : ℕ) (shape : List ℕ) → 0 < product shape → all_below (unravel n shape) shape ≡ true
unfolding unravel all_below product
unravel_below n [] h = refl
unravel_below n (e ∷ shape) h =
    let f = factors e (product shape) h in true_both (lt-ltb (n / product shape % e) e (mod-lt (n / product shape) f.0)) (unravel_below n shape f.1)

-- its number is the remainder by the product of the extents
unravel_ravel : (n : ℕ) (shape : List ℕ) → 0 < product shape → ravel_index (unravel n shape) shape ≡ n % product shape
unfolding unravel ravel_index product
unravel_ravel n [] h = sym (mod-one n)
unravel_ravel n (e ∷ shape) h = let f = factors e (product shape) h in rw (unravel_ravel n shape f.1) (mod_both n e (product shape) f.0 f.1)

-- so the index of a number below the product is the one at its place
pub unravel_position : (n : ℕ) (shape : List ℕ) → n < product shape → unravel n shape ≡ get_or (positions shape) n []
unravel_position n shape h =
    let same : ravel_index (unravel n shape) shape ≡ n = unravel_ravel n shape (omega arith) ∙ mod-eq_of_lt h in
    sym (rw same at (positions_ravel (unravel n shape) shape (unravel_length n shape) (unravel_below n shape (omega arith))))
