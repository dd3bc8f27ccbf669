-- Which axes are stretched, and what extents they have. Assumes nothing.
use mathlib.Core.Path.{◌≡◌, refl, sym, ap, ◌∙◌}
use mathlib.Core.Bool.{Bool, true, false, not, ◌&&◌, ◌||◌}
use mathlib.Core.List.Memᴰ
use mathlib.Core.List.{List, [], ◌∷◌, Memᴰ}
use Prim.Native.Nat.{ℕ, zero, suc, ◌<◌}
use native.Mathlib.Omega.{arith}
use borrow.Author.Tests.{ltb-true, lt-ltb, lt-leb, eqb-true, ne_eqb}
use lib.Dec.{eqb, ltb}
use lib.ListN.{length, get_or}
use Rattle.rules.specs.Lists.{put_if, any, keep, from, below}
use Rattle.rules.specs.Layout.{Layout, width}
use Rattle.rules.specs.Permute.{repeats}
use Rattle.rules.specs.Stretching.{shared_axes_fit, is_stretched, stretched_axes}
use Rattle.rules.proofs.Same.{both_true, neither, true_not_false}
use Rattle.rules.proofs.Ranges.{from_only, from_has}

-- ---- numbers that are kept by a test

module _ (test : ℕ → Bool) where
  -- each of them is one of the numbers, and passes
  pub kept_only : {k : ℕ} (l : List ℕ) → Memᴰ k (keep test l) → Memᴰ k l × (test k ≡ true)
  unfolding keep
  kept_only [] m = absurd (Memᴰ.not-nil m)
  kept_only {k} (x ∷ l) m = go (test x) refl (kept_only l) m
    where
      there : Memᴰ k l × (test k ≡ true) → Memᴰ k (x ∷ l) × (test k ≡ true)
      there p = (Memᴰ.tail p.0, p.1)

      go : (t : Bool) → test x ≡ t → (Memᴰ k (keep test l) → Memᴰ k l × (test k ≡ true)) →
          Memᴰ k (put_if t x (keep test l)) → Memᴰ k (x ∷ l) × (test k ≡ true)
      go true e rest (Memᴰ.head d) = (Memᴰ.head d, ap test d ∙ e)
      go true e rest (Memᴰ.tail n) = there (rest n)
      go false e rest n = there (rest n)

  -- each number that passes is kept
  pub kept_has : {k : ℕ} {l : List ℕ} → Memᴰ k l → test k ≡ true → Memᴰ k (keep test l)
  unfolding keep
  kept_has (Memᴰ.head {x} {xs = l} d) e = let first : test x ≡ true = ap test (sym d) ∙ e in rw first (Memᴰ.head d)
  kept_has {k} (Memᴰ.tail {x} {xs = l} m) e = go (test x) (kept_has m e)
    where
      go : (t : Bool) → Memᴰ k (keep test l) → Memᴰ k (put_if t x (keep test l))
      go true n = Memᴰ.tail n
      go false n = n

  -- what no number passes, none that is kept passes
  none_kept : (other : ℕ → Bool) (l : List ℕ) → any other l ≡ false → any other (keep test l) ≡ false
  unfolding keep any
  none_kept other [] e = refl
  none_kept other (x ∷ l) e = let h = neither (other x) (any other l) e in go (test x) h.0 (none_kept other l h.1)
    where
      go : (t : Bool) → other x ≡ false → any other (keep test l) ≡ false → any other (put_if t x (keep test l)) ≡ false
      go true f rest = rw (f, rest)
      go false f rest = rest

  -- numbers that do not come again do not when some are kept
  pub kept_apart : (l : List ℕ) → repeats l ≡ false → repeats (keep test l) ≡ false
  unfolding keep repeats
  kept_apart [] e = refl
  kept_apart (x ∷ l) e =
      let h = neither (any (eqb x) l) (repeats l) e in
      go (test x) (none_kept (eqb x) l h.0) (kept_apart l h.1)
    where
      go : (t : Bool) → any (eqb x) (keep test l) ≡ false → repeats (keep test l) ≡ false → repeats (put_if t x (keep test l)) ≡ false
      go true f rest = rw (f, rest)
      go false f rest = rest

-- a smaller number is none of those from a on
none_from : (b a n : ℕ) → b < a → any (eqb b) (from a n) ≡ false
unfolding any from
none_from b a zero h = refl
none_from b a (suc n) h = rw (ne_eqb b a (λ e. omega arith), none_from b (suc a) n (omega arith))

-- numbers in a row do not come again
pub from_apart : (a n : ℕ) → repeats (from a n) ≡ false
unfolding repeats from
from_apart a zero = refl
from_apart a (suc n) = rw (none_from a (suc a) n (omega arith), from_apart (suc a) n)

-- ---- shared axes

module _ (old new : List ℕ) where
  -- a stretched axis is one of the new shape
  pub stretched_below : {k : ℕ} → Memᴰ k (stretched_axes old new) → (k < length new) × (is_stretched old new k ≡ true)
  unfolding stretched_axes
  stretched_below m =
      let h = kept_only (is_stretched old new) (below (length new)) m in
      (omega (arith, from_only 0 (length new) h.0), h.1)

  -- each stretched axis of the new shape is there
  pub stretched_has : {k : ℕ} → k < length new → is_stretched old new k ≡ true → Memᴰ k (stretched_axes old new)
  unfolding stretched_axes
  stretched_has {k} h e = kept_has (is_stretched old new) (from_has 0 (length new) (omega arith) (omega arith)) e

  -- a stretched axis that is shared had extent 1
  pub stretched_one : {k : ℕ} → k < length old → is_stretched old new k ≡ true → get_or old k 0 ≡ 1
  stretched_one {k} h e = eqb-true (get_or old k 0) 1 (both_true (eqb (get_or old k 0) 1) (not (eqb (get_or new k 0) 1)) (rw (lt-leb (length old) k h) at e)).0

-- a shared axis is 1 or equal
fits_at : (old new : List ℕ) → shared_axes_fit old new ≡ true → (k : ℕ) → k < length old → k < length new → eqb (get_or old k 0) 1 || eqb (get_or old k 0) (get_or new k 0) ≡ true
unfolding shared_axes_fit
fits_at [] new e k h g = absurd (omega arith)
fits_at (x ∷ old) [] e k h g = absurd (omega arith)
fits_at (x ∷ old) (y ∷ new) e zero h g = (both_true (eqb x 1 || eqb x y) (shared_axes_fit old new) e).0
fits_at (x ∷ old) (y ∷ new) e (suc k) h g = fits_at old new (both_true (eqb x 1 || eqb x y) (shared_axes_fit old new) e).1 k (omega arith) (omega arith)

-- a shared axis that is not stretched keeps its extent
pub unstretched_same : (old new : List ℕ) → shared_axes_fit old new ≡ true → (k : ℕ) → k < length old → k < length new → is_stretched old new k ≡ false → get_or old k 0 ≡ get_or new k 0
unstretched_same old new e k h g f =
    go (eqb (get_or old k 0) 1) (eqb (get_or new k 0) 1) refl refl (fits_at old new e k h g) (rw (lt-leb (length old) k h) at f)
  where
    go : (s t : Bool) → eqb (get_or old k 0) 1 ≡ s → eqb (get_or new k 0) 1 ≡ t → s || eqb (get_or old k 0) (get_or new k 0) ≡ true → s && not t ≡ false → get_or old k 0 ≡ get_or new k 0
    go true true p q a b = omega (arith, eqb-true (get_or old k 0) 1 p, eqb-true (get_or new k 0) 1 q)
    go true false p q a b = absurd (true_not_false refl b)
    go false t p q a b = eqb-true (get_or old k 0) (get_or new k 0) a

-- ---- the axes on which rows are stretched

-- the stretched axes below R - D
abbrev pub row_axes : Layout → List ℕ → List ℕ
row_axes l shape = keep (λ axis. ltb axis (width l)) (stretched_axes l.shape shape)

module _ (l : Layout) (shape : List ℕ) where
  -- such an axis
  pub row_axis : {k : ℕ} → Memᴰ k (row_axes l shape) → (k < width l) × (is_stretched l.shape shape k ≡ true)
  row_axis {k} m =
      let h = kept_only (λ axis. ltb axis (width l)) (stretched_axes l.shape shape) m in
      (ltb-true k (width l) h.1, (stretched_below l.shape shape h.0).1)

  -- each such axis is there
  pub is_row_axis : {k : ℕ} → k < width l → k < length shape → is_stretched l.shape shape k ≡ true → Memᴰ k (row_axes l shape)
  is_row_axis {k} h g e = kept_has (λ axis. ltb axis (width l)) (stretched_has l.shape shape g e) (lt-ltb k (width l) h)

  -- none is there twice
  pub row_axes_apart : repeats (row_axes l shape) ≡ false
  unfolding stretched_axes
  row_axes_apart =
      kept_apart (λ axis. ltb axis (width l)) (stretched_axes l.shape shape)
      (kept_apart (is_stretched l.shape shape) (below (length shape)) (from_apart 0 (length shape)))
