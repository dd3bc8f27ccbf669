-- `filter_deps_from`: the range as it was handed over and judged, and the step in the first part of the working buffer. Assumes nothing.
use Rattle.std.specs.Prelude.{Option, Result, ⊤}
use Rattle.rules.specs.declared.Refusal.{Refusal}
use mathlib.Core.Path.{◌≡◌}
use mathlib.Core.Bool.{not, ◌&&◌, ◌||◌}
use mathlib.Core.List.{List, [], ◌∷◌}
use Prim.Native.Nat.{ℕ}
use native.Mathlib.Omega.{arith}
use lib.IntN.{ℤ}
use lib.ListN.{length}
use mir.Syntax.{w32}
use mir.Val.{SFits, to_z, of_z}
use mir.ValLaws.{to_z-of_z}
use Rattle.rules.specs.declared.Head.{Head}
use Rattle.rules.specs.Limits.{work_size}
use Rattle.rules.specs.Refusals.{Verdict, in_form, Reason, ◌when◌}
use Rattle.rules.specs.Layout.{Layout, encode}
use Rattle.rules.specs.Record.{natural, layout_in}
use Rattle.rules.specs.Arguments.{over_record, good_end}
use Rattle.rules.specs.Endings.{Ends}
use Rattle.rules.specs.FilterDepsFrom.{filter_deps_from, filter_deps_from_call}
use Rattle.rules.proofs.RefusedWith.{filter_refusing}
use Rattle.tables.proofs.Only.{only_wider}
use Rattle.records.specs.Sound.{SoundRecord}
use Rattle.parts.specs.Parts.{part_size}
use Rattle.parts.specs.Answers.{Says, Finished}
use Rattle.parts.proofs.Ending.{AboveTwo, Late}
use Rattle.parts.proofs.Lent.{lent_of, back_in}
use Rattle.parts.proofs.Windows.{part_only, part_says}
use Rattle.judging.specs.LentSizes.{SizesKept}
use Rattle.judging.specs.Judging.{RangeGood, RangeIs}
use Rattle.judging.proofs.Judged.{argument_right, not_holds}
use Rattle.judging.proofs.PairCalls.{pair_done}

-- a refusal is above 2
pub late_filter : (target source : Layout) (start end : ℕ) → Late (filter_deps_from target source start end)
late_filter = filter_refusing AboveTwo (omega arith) (omega arith) (omega arith)

-- ---- the range

module _ (start end : ℤ) where
  -- the rule, for the range that was asked
  abbrev pub filter_of : Layout → Layout → Verdict Layout
  filter_of target source = filter_deps_from target source (natural start) (natural end)

  -- the range as it was handed over
  pub range_handed : (r : Option (ℕ × ℕ)) → SFits w32 start → SFits w32 end → RangeIs (to_z w32 (of_z w32 start)) (to_z w32 (of_z w32 end)) r → RangeIs start end r
  range_handed r f g p = rw (to_z-of_z w32 start f, to_z-of_z w32 end g) at p

  -- 5
  abbrev pub range_reasons : List Reason
  range_reasons = 5 when not (good_end start && good_end end) ∷ []

-- ---- the part that came back from the step

module _ (start end : ℤ) (s t result work : List ℤ) (k : SizesKept (over_record s || over_record t) (length result) (length work)) {from to : ℕ} (g : RangeGood start end from to)
    {new : List ℤ} {step : (Result ⊤ Refusal)} (same : length new ≡ length (lent_of 0 part_size work)) (made : Says (filter_deps_from (layout_in s) (layout_in t) from to) 0 new step) where
  pub filter_says : Says (filter_of start end (layout_in s) (layout_in t)) 0 (back_in 0 part_size work new) step
  filter_says = part_says work k.work_long new same (rw (g.from_is, g.to_is) at made)

  pub filter_done : {x y : Head} → SoundRecord x s → SoundRecord y t → {result' work' : List ℤ} {r : (Result ℕ Refusal)} → Finished step 0 (back_in 0 part_size work new) result r work' result' →
      Ends (in_form encode (filter_deps_from_call s t start end (length result) (length work))) result work r result' work'
  unfolding filter_deps_from_call
  filter_done p q f =
      pair_done (filter_of start end) (range_reasons start end) s t result work k p q (argument_right (not (good_end start && good_end end)) (not_holds (good_end start && good_end end) g.good)) (late_filter (layout_in s) (layout_in t) (natural start) (natural end)) filter_says
      (only_wider (part_only work k.work_long new same) 0 work_size (omega arith) (omega arith)) f
