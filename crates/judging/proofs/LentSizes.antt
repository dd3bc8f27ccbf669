-- The ways out of `judge_sizes`, and what they tell. Assumes nothing.
use Rattle.std.specs.Prelude.{Err, Ok, Result, ⊤}
use mathlib.Core.Path.{◌≡◌, ◌∙◌, subst}
use mathlib.Core.Bool.{Bool, true, false, ◌||◌}
use Prim.Native.Nat.{ℕ, ◌<◌, ◌≤◌}
use borrow.Author.Tests.{lt-ltb, le-ltb}
use Rattle.rules.specs.declared.Refusal.{Refusal}
use Rattle.rules.specs.declared.Refusal.TheVariants.{OverCount, ShortBuffer}
use Rattle.rules.specs.Limits.{result_size, work_size}
use Rattle.rules.specs.Refusals.{number_of, lowest}
use Rattle.judging.specs.LentSizes.{SizesKept, SizesRefused, SizesAre}

-- ---- one test after the other

module _ (over : Bool) (result work : ℕ) where
  -- 1
  pub over_count_lem : over ≡ true → SizesRefused over result work OverCount
  unfolding lowest number_of
  over_count_lem e = record { is = rw e }

  module _ (not_over : over ≡ false) where
    -- 2: the result, or the working buffer
    pub short_result_lem : result < result_size → SizesRefused over result work ShortBuffer
    unfolding lowest number_of
    short_result_lem h = record { is = rw (not_over, lt-ltb result result_size h) }

    module _ (h : result_size ≤ result) where
      pub short_work_lem : work < work_size → SizesRefused over result work ShortBuffer
      unfolding lowest number_of
      short_work_lem l = record { is = rw (not_over, le-ltb result result_size h, lt-ltb work work_size l) }

      -- neither
      pub sizes_kept : work_size ≤ work → SizesKept over result work
      sizes_kept l = record { not_over = not_over; result_long = h; work_long = l }

pub ruleset ways = (over_count_lem, short_result_lem, short_work_lem, sizes_kept)

-- ---- what was judged, by the case that was met

module _ {over : Bool} {result work : ℕ} {r : (Result ⊤ Refusal)} (p : SizesAre over result work r) where
  pub kept_sizes : r ≡ Ok tt → SizesKept over result work
  kept_sizes e = subst (SizesAre over result work) e p

  pub refused_sizes : {why : Refusal} → r ≡ Err why → SizesRefused over result work why
  refused_sizes e = subst (SizesAre over result work) e p

-- whether a count is over its limit, as it was told
module _ {x o : Bool} (o_is : o ≡ x) {result work : ℕ} {r : (Result ⊤ Refusal)} (p : SizesAre o result work r) where
  pub kept_told : r ≡ Ok tt → SizesKept x result work
  kept_told e = subst (λ (t : Bool). SizesKept t result work) o_is (kept_sizes p e)

  pub refused_told : {why : Refusal} → r ≡ Err why → SizesRefused x result work why
  refused_told {why} e = subst (λ (t : Bool). SizesRefused t result work why) o_is (refused_sizes p e)

-- and told by two tests
pub told_either : (x y : Bool) {a b o : Bool} → a ≡ x → b ≡ y → o ≡ a || b → o ≡ x || y
told_either x y e f g = g ∙ rw (e, f)
