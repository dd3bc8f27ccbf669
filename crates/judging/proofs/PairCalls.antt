-- How a call on two records ends, by any rule and with any reasons behind 3; two rules are refused with 3 or more. Assumes nothing.
use Rattle.std.specs.Prelude.{Err, None, Ok, Option, Result, Some, ⊤}
use mathlib.Core.Path.{◌≡◌, ◌∙◌}
use mathlib.Core.Bool.{Bool, not, ◌&&◌, ◌||◌}
use mathlib.Core.List.{List, ◌∷◌}
use Prim.Native.Nat.{ℕ}
use native.Mathlib.Omega.{arith}
use lib.IntN.{ℤ}
use lib.ListN.{length}
use Rattle.rules.specs.declared.Head.{Head}
use Rattle.rules.specs.declared.Refusal.{Refusal}
use Rattle.rules.specs.declared.Refusal.TheVariants.{Unsound}
use Rattle.rules.specs.Limits.{work_size}
use Rattle.rules.specs.Buffers.{over, zeros}
use Rattle.rules.specs.Refusals.{Verdict, given, refused, in_form, number_of, Reason, ◌when◌, ◌then◌, lowest}
use Rattle.rules.specs.Layout.{Layout, encode}
use Rattle.rules.specs.Record.{layout_in, sound}
use Rattle.rules.specs.Arguments.{over_record}
use Rattle.rules.specs.Endings.{Ends}
use Rattle.rules.specs.Union.{union}
use Rattle.rules.specs.Intersect.{intersect}
use Rattle.rules.proofs.Refusing.{Reasons}
use Rattle.rules.proofs.RefusedWith.{union_refusing, intersect_refusing}
use Rattle.records.specs.Sound.{SoundRecord, sound_head, ReadableHead}
use Rattle.tables.specs.Tables.{Only}
use Rattle.parts.specs.Answers.{Says, Finished}
use Rattle.parts.proofs.Ending.{AboveTwo, Late}
use Rattle.judging.specs.LentSizes.{size_reasons, SizesKept, SizesAre}
use Rattle.judging.proofs.LentSizes.{kept_told, refused_told, told_either}
use Rattle.judging.proofs.SoundRecords.{unsound_first, unsound_second, pair_unsound, pair_passed}
use Rattle.judging.proofs.Endings.{ends_early, ends_late, ends_done}

-- a union that is refused is refused with 3 or more
pub late_union : (a b : Layout) → Late (union a b)
late_union = union_refusing AboveTwo (omega arith) (omega arith) (omega arith) (omega arith)

-- an intersection is
pub late_intersect : (a b : Layout) → Late (intersect a b)
late_intersect = intersect_refusing AboveTwo (omega arith) (omega arith) (omega arith) (omega arith)

module _ (rule : Layout → Layout → Verdict Layout) (more : List Reason) (s t result work : List ℤ) where
  -- 3 and what else the call can be refused for
  abbrev reasons : List Reason
  reasons = 3 when not (sound s && sound t) ∷ more

  abbrev call : Verdict Layout
  call = lowest (size_reasons (over_record s || over_record t) (length result) (length work) reasons) then λ _. rule (layout_in s) (layout_in t)

  -- 1 or 2, as each record was asked whether it has too many axes
  module _ {a b o : Bool} (a-is : a ≡ over_record s) (b-is : b ≡ over_record t) (o_is : o ≡ a || b) {r : (Result ⊤ Refusal)} (sizes : SizesAre o (length result) (length work) r) where
    pub pair_early : {why : Refusal} → r ≡ Err why → Ends (in_form encode call) result work (Err why) result work
    pair_early e =
        ends_early (over_record s || over_record t) reasons (rule (layout_in s) (layout_in t)) result work
        (refused_told (told_either (over_record s) (over_record t) a-is b-is o_is) sizes e)

    pub pair_kept : r ≡ Ok tt → SizesKept (over_record s || over_record t) (length result) (length work)
    pair_kept e = kept_told (told_either (over_record s) (over_record t) a-is b-is o_is) sizes e

  module _ (k : SizesKept (over_record s || over_record t) (length result) (length work)) where
    -- a later reason
    pub pair_late : Reasons AboveTwo more → {why : Refusal} {r : (Result ℕ Refusal)} {work' : List ℤ} → lowest reasons ≡ refused (number_of why) →
        (r ≡ Err why) × (work' ≡ over (zeros work_size) work) → Ends (in_form encode call) result work r result work'
    pair_late late e f = ends_late (over_record s || over_record t) reasons (rule (layout_in s) (layout_in t)) result work k (omega arith, late) e f

    -- 3: the first record is not sound, or the second
    pub pair_late_first : Reasons AboveTwo more → {q : (Option Head)} {r : (Result ℕ Refusal)} {work' : List ℤ} → q ≡ sound_head s → q ≡ None →
        (r ≡ Err Unsound) × (work' ≡ over (zeros work_size) work) → Ends (in_form encode call) result work r result work'
    pair_late_first late e f g = pair_late late {why = Unsound} (pair_unsound s t more (unsound_first s t e f)) g

    pub pair_late_second : Reasons AboveTwo more → {p q : (Option Head)} {x : Head} {r : (Result ℕ Refusal)} {work' : List ℤ} → p ≡ sound_head s → ReadableHead p s → p ≡ Some x → q ≡ sound_head t → q ≡ None →
        (r ≡ Err Unsound) × (work' ≡ over (zeros work_size) work) → Ends (in_form encode call) result work r result work'
    pair_late_second late d p h e f g = pair_late late {why = Unsound} (pair_unsound s t more (unsound_second s t d p h e f)) g

    -- no reason holds
    pub pair_done : {x y : Head} → SoundRecord x s → SoundRecord y t → lowest more ≡ given tt → Late (rule (layout_in s) (layout_in t)) →
        {step : (Result ⊤ Refusal)} {at : ℕ} {now result' work' : List ℤ} {r : (Result ℕ Refusal)} → Says (rule (layout_in s) (layout_in t)) at now step → Only 0 work_size work now →
        Finished step at now result r work' result' → Ends (in_form encode call) result work r result' work'
    pair_done p q e late says only f =
        ends_done (over_record s || over_record t) reasons (rule (layout_in s) (layout_in t)) result work k (pair_passed s t more p q ∙ e) late says only f
