-- A section by what stands at its count, and what a whole one says. Assumes nothing.
use Rattle.std.specs.Prelude.{None, Option, Some}
use mathlib.Core.Path.{◌≡◌, refl, sym, ap, ◌∙◌}
use mathlib.Core.List.{List, [], ◌∷◌}
use Prim.Native.Nat.{ℕ, zero, suc, ◌+◌, ◌-◌, ◌*◌, ◌^◌, ◌<◌, ◌≤◌}
use native.Mathlib.Omega.{arith}
use native.Mathlib.Nat.{lt_of_le_of_lt, le_of_lt, mul-le-mul}
use borrow.Author.Tests.{le-leb, lt-leb}
use lib.Dec.{lit<}
use lib.IntN.{ℤ, pos, negsuc}
use lib.ListN.{length, get_or, get_or-eq_default}
use lib.Signed.{mag}
use mir.Syntax.{w64}
use mir.Val.{Fits}
use Rattle.rules.specs.declared.Entries.{Entries}
use Rattle.rules.specs.Record.{entries_from, section_at}
use Rattle.rules.proofs.Walked.{Lies, lies}
use Rattle.cells.specs.View.{sign_of, size_of}
use Rattle.records.specs.Sections.{Laid}

-- ---- what stands at a place

-- a place of the list has what it has, whatever is read behind the end
pub other_default : {A : Type 0} (l : List A) (i : ℕ) (d e : A) → i < length l → get_or l i d ≡ get_or l i e
other_default [] i d e h = absurd (omega arith)
other_default (x ∷ l) zero d e h = refl
other_default (x ∷ l) (suc i) d e h = other_default l i d e (omega arith)

-- a number whose sign is natural
pub sign_natural : (z : ℤ) {n : ℕ} → sign_of z ≡ Some n → z ≡ pos n
unfolding sign_of
sign_natural (pos m) e = cc
sign_natural (negsuc m) e = cc

-- one whose sign is negative
pub sign_negative : (z : ℤ) → sign_of z ≡ None → z ≡ negsuc (mag z)
unfolding sign_of
sign_negative (pos n) e = cc
sign_negative (negsuc n) e = refl

-- a count that was read is small
pub size_natural : {g : (Option ℕ)} {n b : ℕ} → size_of g < b → g ≡ Some n → n < b
size_natural h e = rw e at h

-- so many entries of so many numbers each are counted without wrapping
pub product_fits : {g : (Option ℕ)} {n w : ℕ} → size_of g < 2 ^ 31 → g ≡ Some n → w < 2 ^ 32 → Fits w64 (n * w)
product_fits h e k = record { fits = lt_of_le_of_lt (mul-le-mul (le_of_lt (size_natural h e)) (le_of_lt k)) (lit< tt) }

-- ---- a section by its count

-- by a negative count nothing is there
negative_count : (size w f : ℕ) (z : ℤ) → sign_of z ≡ None → entries_from size w f z ≡ None
unfolding entries_from
negative_count size w f z e = rw (sign_negative z e)

module _ (i : ℕ) (s : List ℤ) where
  -- no count stands past the end
  pub cut_outside : (w : ℕ) → length s ≤ i → None ≡ section_at i w s
  unfolding section_at entries_from
  cut_outside w h = rw (get_or-eq_default s (negsuc 0) h)

  module _ {g : (Option ℕ)} (h : i < length s) (e : g ≡ sign_of (get_or s i (pos 0))) where
    -- a negative count stands there
    pub cut_negative : (w : ℕ) → g ≡ None → None ≡ section_at i w s
    unfolding section_at
    cut_negative w f =
        sym (negative_count (length s) w (i + 1) (get_or s i (negsuc 0)) (ap sign_of (other_default s i (negsuc 0) (pos 0) h) ∙ sym e ∙ f))

    module _ {n : ℕ} (f : g ≡ Some n) where
      -- the count n stands there
      pub is_count : get_or s i (pos 0) ≡ pos n
      is_count = sign_natural (get_or s i (pos 0)) (sym e ∙ f)

      -- so n entries are asked for
      counted : (w : ℕ) → section_at i w s ≡ entries_from (length s) w (i + 1) (pos n)
      unfolding section_at
      counted w = ap (entries_from (length s) w (i + 1)) (other_default s i (negsuc 0) (pos 0) h ∙ is_count)

      -- they end past the end
      pub cut_long : (w : ℕ) → length s - (i + 1) < n * w → None ≡ section_at i w s
      unfolding entries_from
      cut_long w l = sym (counted w ∙ rw (lt-leb (i + 1 + n * w) (length s) (omega arith)))

      -- they are all there
      pub whole_section : (w : ℕ) → n * w ≤ length s - (i + 1) → Some (record { count = n; first = i + 1; next = i + 1 + n * w }) ≡ section_at i w s
      unfolding entries_from
      whole_section w l = sym (counted w ∙ rw (le-leb (i + 1 + n * w) (length s) (omega arith)))

      -- and lie in the slice
      pub entries_lie : (w : ℕ) → n * w ≤ length s - (i + 1) → Laid i w s (record { count = n; first = i + 1; next = i + 1 + n * w })
      entries_lie w l = record { at = h; count = is_count; first = refl; next = refl; room = omega arith }

-- ---- what a whole section says

-- it lies in the slice
pub laid : {i w : ℕ} {s : List ℤ} {e : Entries} → Lies i w s e → Laid i w s e
laid {i} {s = s} l =
    let inside : i < length s = omega arith in
    record { at = inside; count = other_default s i (pos 0) (negsuc 0) inside ∙ l.count; first = l.first; next = omega arith; room = l.room }

pub section_laid : (i w : ℕ) (s : List ℤ) {e : Entries} → section_at i w s ≡ Some e → Laid i w s e
section_laid i w s {e} p = laid (lies i w s e p)

pub ruleset laws = (product_fits, size_natural, cut_outside, cut_negative, cut_long, whole_section, entries_lie)
