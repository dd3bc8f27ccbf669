-- Whether a shape broadcasts to another, axis by axis. Assumes nothing.
use mathlib.Core.Path.{◌≡◌, refl, sym, ap, ◌∙◌}
use mathlib.Core.Bool.{Bool, true, false, ◌&&◌, ◌||◌, and-true, and-false, or-true}
use mathlib.Core.List.{List, [], ◌∷◌, map}
use Prim.Native.Nat.{ℕ, suc, ◌+◌, ◌-◌, ◌<◌, ◌≤◌}
use native.Mathlib.Omega.{arith}
use native.Mathlib.Numerals.{add-one}
use borrow.Author.Tests.{lt-ltb, le-ltb, le-leb, lt-leb, leb-true, leb-false, eq-eqb, ne_eqb, not-true, not-false}
use lib.Dec.{eqb, leb}
use lib.ListN.{length, get_or, drop, length-map, drop_of_length-le}
use lib.Seq.{drop-cons}
use Rattle.rules.specs.Lists.{all, from, below, larger, largest, same}
use Rattle.rules.specs.Shapes.{extents, common_extent, axis_agrees, shapes_agree, common_shape, can_broadcast_to}
use Rattle.rules.proofs.Ranges.{from_length}
use Rattle.rules.proofs.Same.{same_true}
use Rattle.shapes.specs.Judged.{axis_stretches}

-- ---- one axis

module _ (to source : ℕ) where
  pub axis_larger : to < source → false ≡ axis_stretches to source
  axis_larger h = rw (lt-leb source to h)

  pub axis_one : source ≤ to → source ≡ 1 → true ≡ axis_stretches to source
  axis_one h e = rw (le-leb source to h, eq-eqb source 1 e)

  pub axis_other : source ≤ to → (source ≡ 1 → ⊥) → eqb source to ≡ axis_stretches to source
  axis_other h n = rw (le-leb source to h, ne_eqb source 1 n)

pub ruleset axis_laws = (axis_larger, axis_one, axis_other)

-- ---- two tests

-- tests two by two
and_exchange : (a p b q : Bool) → (a && p) && (b && q) ≡ (a && b) && (p && q)
and_exchange true p true q = refl
and_exchange true p false q = and-false p
and_exchange false p b q = refl

-- ---- the two shapes on one axis

-- no number is below 0
pub larger_zero : (x : ℕ) → larger x 0 ≡ x
larger_zero x = rw (le-ltb x 0 (omega arith))

-- both extents agree with the larger one, and that is the first
axis_both : (t f : ℕ) →
    (all (λ e. eqb e 1 || eqb e (larger t (larger f 0))) (t ∷ f ∷ []) && eqb (larger t (larger f 0)) t) ≡ axis_stretches t f
unfolding all
axis_both t f = rw (larger_zero f) (by (leb f t) refl)
  where
    by : (b : Bool) → leb f t ≡ b → (all (λ e. eqb e 1 || eqb e (larger t f)) (t ∷ f ∷ []) && eqb (larger t f) t) ≡ axis_stretches t f
    by true e =
        let h = leb-true f t e in
        rw (e, le-ltb t f h, eq-eqb t t refl, or-true (eqb t 1), and-true (eqb f 1 || eqb f t)) (and-true (eqb f 1 || eqb f t))
    by false e =
        let h = leb-false f t e in
        rw (e, lt-ltb t f h, ne_eqb f t (λ (z : f ≡ t). omega arith)) (and-false ((eqb t 1 || eqb t f) && ((eqb f 1 || eqb f f) && true)))

module _ (to source : List ℕ) where
  -- the tests from axis k on
  abbrev agree_from : ℕ → ℕ → Bool
  agree_from k n = all (λ axis. axis_agrees axis (to ∷ source ∷ [])) (from k n)

  abbrev same_from : ℕ → ℕ → Bool
  same_from k n = same (map (λ axis. common_extent axis (to ∷ source ∷ [])) (from k n)) (drop k to)

  stretch_next : (k n : ℕ) → k < length to →
      agree_from k (suc n) && same_from k (suc n) ≡ axis_stretches (get_or to k 1) (get_or source k 1) && (agree_from (suc k) n && same_from (suc k) n)
  unfolding from all same extents largest
  stretch_next k n h =
      rw (drop-cons to k 1 h)
      (and_exchange (axis_agrees k (to ∷ source ∷ [])) (agree_from (suc k) n) (eqb (common_extent k (to ∷ source ∷ [])) (get_or to k 1)) (same_from (suc k) n)
      ∙ ap (λ (b : Bool). b && (agree_from (suc k) n && same_from (suc k) n)) (axis_both (get_or to k 1) (get_or source k 1)))

  -- as many axes as the longer one has
  axes : largest (map length (to ∷ source ∷ [])) ≡ larger (length to) (length source)
  unfolding largest
  axes = rw (larger_zero (length source))

  too_long : length to < length source → false ≡ same (common_shape (to ∷ source ∷ [])) to
  unfolding common_shape
  too_long h = by (same (common_shape (to ∷ source ∷ [])) to) refl
    where
      by : (b : Bool) → same (common_shape (to ∷ source ∷ [])) to ≡ b → false ≡ same (common_shape (to ∷ source ∷ [])) to
      by true e =
          let n : ℕ = largest (map length (to ∷ source ∷ [])) in
          let l : length (common_shape (to ∷ source ∷ [])) ≡ length to = ap length (same_true e) in
          let m : length (common_shape (to ∷ source ∷ [])) ≡ n = length-map (below n) (λ axis. common_extent axis (to ∷ source ∷ [])) ∙ from_length 0 n in
          let k : n ≡ length source = axes ∙ rw (lt-ltb (length to) (length source) h) in
          absurd (omega arith)
      by false e = sym e

-- ---- the loop

-- the axes before k stretch: all do if those from k on do
pub record Stretched (to source : List ℕ) (k : ℕ) : Type 0 where
  pub upto : k ≤ length to
  pub eq : can_broadcast_to to source ≡ agree_from to source k (length to - k) && same_from to source k (length to - k)

module _ (to source : List ℕ) where
  pub stretch_refused : {m n : ℕ} → m ≡ length to → n ≡ length source → m < n → false ≡ can_broadcast_to to source
  unfolding can_broadcast_to
  stretch_refused e f h = rw (← too_long to source (omega arith)) (sym (and-false (shapes_agree (to ∷ source ∷ []))))

  pub stretch_start : {m n : ℕ} → m ≡ length to → n ≡ length source → n ≤ m → Stretched to source 0
  unfolding can_broadcast_to shapes_agree common_shape
  stretch_start {m} {n} e f h =
      let k : largest (map length (to ∷ source ∷ [])) ≡ length to = axes to source ∙ rw (le-ltb (length to) (length source) (omega arith)) in
      let z : length to - 0 ≡ length to = omega arith in
      record { upto = omega arith; eq = rw (k, z) }

  module _ {k m t f : ℕ} {b : Bool} (p : Stretched to source k) (is : m ≡ length to) (h : k < m)
      (et : t ≡ get_or to k 1) (ef : f ≡ get_or source k 1) (eb : b ≡ axis_stretches t f) where
    split : can_broadcast_to to source ≡ b && (agree_from to source (suc k) (length to - suc k) && same_from to source (suc k) (length to - suc k))
    split =
        let n : length to - k ≡ suc (length to - suc k) = omega arith in
        p.eq ∙ rw n (stretch_next to source k (length to - suc k) (omega arith) ∙ rw (← et, ← ef, ← eb))

    pub stretch_turn : b ≡ true → Stretched to source (k + 1)
    stretch_turn g = record { upto = omega arith; eq = rw add-one (split ∙ rw g) }

    pub stretch_stop : b ≡ false → false ≡ can_broadcast_to to source
    stretch_stop g = sym (split ∙ rw g)

  pub stretch_done : {k m : ℕ} → Stretched to source k → m ≡ length to → m ≤ k → true ≡ can_broadcast_to to source
  unfolding from all same
  stretch_done {k} p is h =
      let n : length to - k ≡ 0 = omega arith in
      let l : length to ≤ k = omega arith in
      sym (p.eq ∙ rw (n, drop_of_length-le to l))

pub ruleset laws = (stretch_refused, stretch_start, stretch_turn, stretch_stop, stretch_done, not-true, not-false)
