-- `next`, `finish` and `negative`: a word by its kinds. Assumes nothing.
use mathlib.Core.Path.{◌≡◌, refl, sym, ap}
use mathlib.Core.Bool.{Bool, true, false}
use mathlib.Core.List.{List, [], ◌∷◌}
use Prim.Native.Nat.{ℕ, zero, suc, ◌+◌, ◌^◌, ◌<◌, ◌≤◌}
use native.Mathlib.Omega.{arith}
use lib.Dec.{eqb, leb}
use lib.IntN.{ℤ, pos, neg_ℤ}
use lib.ListN.{length, set}
use lib.Signed.{mag}
use mir.Syntax.{w32}
use mir.Val.{to_z}
use mir.ValLaws.{to_z_pos}
use borrow.Author.Tests.{leb-true}
use Rattle.rules.specs.Lists.{if}
use Rattle.rules.specs.Buffers.{put}
use Rattle.rules.proofs.Buffers.{put_nil, put_more}
use Rattle.cells.proofs.Signed.{held, back}
use Rattle.std.specs.Prelude.{◌⊎◌, Option, Some, None, MatchOption}
use Rattle.std.proofs.Common.{inl, inr}
use Rattle.text.specs.declared.Word.{Word}
use Rattle.text.specs.declared.Word.TheVariants.{Nothing, Minus, Natural, Negative, Broken}
use Rattle.text.specs.Read.{numbers, other}
use Rattle.text.specs.Words.{grown_of, within, next_of, ending, Small, begun}
use Rattle.text.specs.Placed.{Placed}

-- ---- values

pub small_natural : {word : Word} {v : ℕ} → word ≡ Natural v → Small word → v < 2 ^ 31
small_natural e s = rw e at s

pub natural_low : {word : Word} {v : ℕ} → word ≡ Natural v → Small word → v ≤ 2 ^ 31
natural_low e s = let h = small_natural e s in omega arith

pub small_negative : {word : Word} {v : ℕ} → word ≡ Negative v → Small word → v ≤ 2 ^ 31
small_negative e s = rw e at s

-- a word with one byte more is small
capped : (kind : ℕ → Word) (limit v : ℕ) → (v ≤ limit → Small (kind v)) → (t : Bool) → leb v limit ≡ t → Small (if t (kind v) Broken)
capped kind limit v h true e = h (leb-true v limit e)
capped kind limit v h false e = tt

natural_small : (v : ℕ) → Small (within Natural 2147483647 v)
natural_small v = capped Natural 2147483647 v (λ h. omega arith) (leb v 2147483647) refl

negative_small : (v : ℕ) → Small (within Negative 2147483648 v)
negative_small v = capped Negative 2147483648 v (λ h. omega arith) (leb v 2147483648) refl

pub next_small : (word : Word) (b : ℕ) → Small (next_of word b)
unfolding next_of
next_small Nothing b = go (eqb b 45)
  where
    go : (t : Bool) → Small (if t Minus (within Natural 2147483647 (grown_of 0 b)))
    go true = tt
    go false = natural_small (grown_of 0 b)
next_small Minus b = negative_small (grown_of 0 b)
next_small (Natural v) b = natural_small (grown_of v b)
next_small (Negative v) b = negative_small (grown_of v b)
next_small Broken b = tt

-- ---- one byte more

-- a value that is kept, if it is within the limit, makes a word of its kind
module _ (kind : ℕ → Word) (limit v : ℕ) where
  within_limit : (t : Bool) {r : Word} → MatchOption (if t (Some v) None) (r ≡ Broken) (λ x. r ≡ kind x) → r ≡ if t (kind v) Broken
  within_limit true m = m
  within_limit false m = m

  pub kept : {kept : Option ℕ} {r : Word} → kept ≡ if (leb v limit) (Some v) None → MatchOption kept (r ≡ Broken) (λ x. r ≡ kind x) → r ≡ within kind limit v
  kept e m = within_limit (leb v limit) (rw e at m)

-- ---- a word that ends

mag_negated : (size : ℕ) → size ≤ 2 ^ 31 → mag (neg_ℤ (pos size)) < 2 ^ 31
mag_negated zero h = omega arith
mag_negated (suc n) h = omega arith

-- there is room for the number of a word
module _ {word : Word} {n size : ℕ} (h : n + begun word ≤ size) where
  pub room_natural : {value : ℕ} → word ≡ Natural value → n < size
  room_natural e = let k = rw e at h in omega arith

  pub room_negative : {value : ℕ} → word ≡ Negative value → n < size
  room_negative e = let k = rw e at h in omega arith

pub finish_nothing : {word : Word} (n : ℕ) (old : List ℤ) → word ≡ Nothing → Placed n (ending word) old old (Some n)
unfolding ending
finish_nothing n old e = record { list = []; reads = ap ending e; count = omega arith; is = sym (put_nil n old) }

-- one number is put
one_put : (n : ℕ) (old : List ℤ) (z : ℤ) → n < length old → set old n z ≡ put n (z ∷ []) old
one_put n old z h =
    let s = put_more n [] old z 0 refl (omega arith) in
    let e : n + 0 ≡ n = omega arith in
    rw (e, put_nil) at s

number_put : (word : Word) (n : ℕ) (old : List ℤ) (z : ℤ) → ending word ≡ numbers (z ∷ []) → n < length old → Placed n (ending word) old (set old n z) (Some (n + 1))
number_put word n old z e h = record { list = z ∷ []; reads = e; count = refl; is = one_put n old z h }

module _ {word : Word} (n : ℕ) (old : List ℤ) (h : n + begun word ≤ length old) (s : Small word) where
  pub finish_natural : {value : ℕ} → word ≡ Natural value → Placed n (ending word) old (set old n (to_z w32 value)) (Some (n + 1))
  unfolding ending
  finish_natural {value} e = rw (to_z_pos w32 value (small_natural e s)) (number_put word n old (pos value) (ap ending e) (room_natural h e))

  pub finish_negative : {value : ℕ} {z : ℤ} → word ≡ Negative value → z ≡ neg_ℤ (pos value) → Placed n (ending word) old (set old n (held z)) (Some (n + 1))
  unfolding ending
  finish_negative {value} e q =
      rw (q, back (neg_ℤ (pos value)) (mag_negated value (small_negative e s))) (number_put word n old (neg_ℤ (pos value)) (ap ending e) (room_negative h e))

pub finish_none : {word : Word} → (word ≡ Minus) ⊎ (word ≡ Broken) → ending word ≡ other
unfolding ending
finish_none (inl e) = ap ending e
finish_none (inr e) = ap ending e

pub ruleset laws = (small_natural, natural_low, small_negative, room_natural, room_negative, finish_nothing, finish_natural, finish_negative, finish_none)
