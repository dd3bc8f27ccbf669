-- `judge_range`: the start and the end of a range, by their signs and their size. Assumes nothing.
use Rattle.std.specs.Prelude.{None, Option, Some}
use mathlib.Core.Path.{◌≡◌, refl, sym, ◌∙◌, subst}
use mathlib.Core.Bool.{Bool, true, false, ◌&&◌}
use Prim.Native.Nat.{ℕ, ◌<◌, ◌≤◌}
use borrow.Author.Tests.{le-leb, lt-leb}
use lib.IntN.{ℤ}
use Rattle.rules.specs.Limits.{product_limit}
use Rattle.rules.specs.Arguments.{good_end}
use Rattle.cells.specs.View.{sign_of}
use Rattle.shapes.proofs.Reading.{as_natural, as_up_to, as_not_up_to}
use Rattle.judging.specs.Judging.{RangeGood, RangeIs}

-- ---- one end

module _ {g : (Option ℕ)} (z : ℤ) (e : g ≡ sign_of z) where
  end_negative : g ≡ None → good_end z ≡ false
  end_negative f = sym (as_not_up_to z e product_limit f)

  module _ {n : ℕ} (f : g ≡ Some n) where
    end_large : product_limit < n → good_end z ≡ false
    end_large h = sym (as_up_to z e product_limit f) ∙ lt-leb n product_limit h

    end_good : n ≤ product_limit → good_end z ≡ true
    end_good h = sym (as_up_to z e product_limit f) ∙ le-leb n product_limit h

-- ---- both

second_fails : (a : Bool) {b : Bool} → b ≡ false → a && b ≡ false
second_fails true e = e
second_fails false e = refl

module _ (start end : ℤ) where
  pub start_negative : {g : (Option ℕ)} → g ≡ sign_of start → g ≡ None → good_end start && good_end end ≡ false
  start_negative e f = rw (end_negative start e f)

  pub last_negative : {g : (Option ℕ)} → g ≡ sign_of end → g ≡ None → good_end start && good_end end ≡ false
  last_negative e f = second_fails (good_end start) (end_negative end e f)

  pub start_large : {g : (Option ℕ)} {n : ℕ} → g ≡ sign_of start → g ≡ Some n → product_limit < n → good_end start && good_end end ≡ false
  start_large e f h = rw (end_large start e f h)

  pub last_large : {g : (Option ℕ)} {n : ℕ} → g ≡ sign_of end → g ≡ Some n → product_limit < n → good_end start && good_end end ≡ false
  last_large e f h = second_fails (good_end start) (end_large end e f h)

  pub range_good : {g h : (Option ℕ)} {m n : ℕ} → g ≡ sign_of start → g ≡ Some m → m ≤ product_limit → h ≡ sign_of end → h ≡ Some n → n ≤ product_limit →
      RangeGood start end m n
  range_good e f k d l o = record { good = rw (end_good start e f k, end_good end d l o); from_is = as_natural start e f; to_is = as_natural end d l }

-- ---- what was judged, by the case that was met

module _ (start end : ℤ) {r : (Option (ℕ × ℕ))} (p : RangeIs start end r) where
  pub range_within : {from to : ℕ} → r ≡ Some (from, to) → RangeGood start end from to
  range_within e = subst (RangeIs start end) e p

  pub range_wrong : r ≡ None → good_end start && good_end end ≡ false
  range_wrong e = subst (RangeIs start end) e p
