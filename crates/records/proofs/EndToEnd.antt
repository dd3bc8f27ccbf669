-- Things end to end in a slice, walked from one to the next: `behind` gives what stands behind the one at the front. Assumes nothing.
use mathlib.Core.Path.{◌≡◌, refl, ap}
use mathlib.Core.List.{List, [], ◌∷◌}
use Prim.Native.Nat.{ℕ, zero, suc, ◌+◌, ◌-◌, ◌<◌, ◌≤◌}
use native.Mathlib.Nat.{add-zero, sub-zero}
use native.Mathlib.Numerals.{sub-one}
use native.Mathlib.Omega.{arith}
use lib.IntN.{ℤ}
use lib.ListN.{length, get_or, take, drop, length-drop}
use lib.Seq.{take_all, drop-drop, get_or-drop}
use Rattle.rules.specs.Record.{end_to_end}
use Rattle.records.specs.EndToEnd.{Behind}

-- a part up to the end is all that stands there
pub to_end : (at : ℕ) (s : List ℤ) → take (length s - at) (drop at s) ≡ drop at s
to_end at s = take_all (length s - at) (drop at s) (rw length-drop (omega arith))

module _ (behind : List ℤ → List ℤ) where
  -- the first of the things that are left, and those behind it
  pub first_left : (left : ℕ) (s : List ℤ) → 0 < left → end_to_end behind left s ≡ s ∷ end_to_end behind (left - 1) (behind s)
  unfolding end_to_end
  first_left zero s h = absurd (omega arith)
  first_left (suc left) s h = rw sub-one

  -- the same of those that begin at a place
  pub next_left : (left at at' : ℕ) (s : List ℤ) → 0 < left → Behind behind at s at' →
      end_to_end behind left (drop at s) ≡ drop at s ∷ end_to_end behind (left - 1) (drop at' s)
  next_left left at at' s h b = rw b.rest (first_left left (drop at s) h)

  -- no more are left
  pub none_left : (left : ℕ) (s : List ℤ) → left ≤ 0 → end_to_end behind left s ≡ []
  unfolding end_to_end
  none_left zero s h = refl
  none_left (suc left) s h = absurd (omega arith)

  -- n things are n
  pub length_end_to_end : (n : ℕ) (s : List ℤ) → length (end_to_end behind n s) ≡ n
  unfolding end_to_end
  length_end_to_end zero s = refl
  length_end_to_end (suc n) s = ap suc (length_end_to_end n (behind s))

-- ---- where the thing of a number begins

-- thing i of n begins at a place, and those behind it follow
pub record Reached (behind : List ℤ → List ℤ) (n : ℕ) (s : List ℤ) (i at : ℕ) : Type 0 where
  pub upto : i ≤ n
  pub inside : at ≤ length s
  pub eq : drop i (end_to_end behind n s) ≡ end_to_end behind (n - i) (drop at s)

pub reached_start : {behind : List ℤ → List ℤ} {n : ℕ} {s : List ℤ} → Reached behind n s 0 0
reached_start {n = n} = record { upto = omega arith; inside = omega arith; eq = rw sub-zero }

module _ {behind : List ℤ → List ℤ} {n : ℕ} {s : List ℤ} {i at : ℕ} (p : Reached behind n s i at) (h : i < n) where
  pub reached_turn : {at' : ℕ} → Behind behind at s at' → Reached behind n s (i + 1) at'
  reached_turn {at'} b =
      let one : n - i - 1 ≡ n - (i + 1) = omega arith in
      record {
        upto = omega arith;
        inside = b.inside;
        eq = rw (← drop-drop 1 i (end_to_end behind n s), p.eq, next_left behind (n - i) at at' s (omega arith) b, one);
      }

  -- it is what stands from there on
  pub reached_here : drop at s ≡ get_or (end_to_end behind n s) i []
  reached_here =
      let here = rw add-zero at (get_or-drop i (end_to_end behind n s) 0 []) in
      rw (← here, p.eq, first_left behind (n - i) (drop at s) (omega arith))
