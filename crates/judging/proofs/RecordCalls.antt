-- How a call on one record ends that is lent a result and a working buffer: over whatever else may be over its limit, any reasons behind 3
-- and any verdict of its step, which is lent the first part of the working buffer. Assumes nothing.
use Rattle.std.specs.Prelude.{Err, None, Ok, Option, Result, ℕ, ⊤}
use mathlib.Core.Path.{◌≡◌, ◌∙◌}
use mathlib.Core.Bool.{Bool, not}
use mathlib.Core.List.{List, ◌∷◌}
use native.Mathlib.Omega.{arith}
use lib.IntN.{ℤ}
use lib.ListN.{length}
use Rattle.rules.specs.declared.Head.{Head}
use Rattle.rules.specs.declared.Refusal.{Refusal}
use Rattle.rules.specs.declared.Refusal.TheVariants.{Unsound}
use Rattle.rules.specs.Limits.{work_size}
use Rattle.rules.specs.Buffers.{over, zeros}
use Rattle.rules.specs.Refusals.{Verdict, given, refused, in_form, number_of, Reason, ◌when◌, ◌then◌, lowest}
use Rattle.rules.specs.Layout.{Layout, encode}
use Rattle.rules.specs.Record.{sound}
use Rattle.rules.specs.Endings.{Ends}
use Rattle.rules.proofs.Refusing.{Reasons}
use Rattle.tables.proofs.Only.{only_wider}
use Rattle.records.specs.Sound.{SoundRecord, sound_head}
use Rattle.records.proofs.SoundRecords.{no_head}
use Rattle.parts.specs.Parts.{part_size}
use Rattle.parts.specs.Answers.{Says, Finished}
use Rattle.parts.proofs.Ending.{AboveTwo, Late}
use Rattle.parts.proofs.Lent.{lent_of, back_in}
use Rattle.parts.proofs.Windows.{part_only, part_says}
use Rattle.judging.specs.LentSizes.{size_reasons, SizesKept, SizesAre}
use Rattle.judging.proofs.Judged.{reason_holds, reason_passed}
use Rattle.judging.proofs.LentSizes.{kept_told, refused_told}
use Rattle.judging.proofs.Endings.{ends_early, ends_late, ends_done}

module _ (told : Bool) (more : List Reason) (v : Verdict Layout) (s result work : List ℤ) where
  -- 3 and what else the call can be refused for
  abbrev reasons : List Reason
  reasons = 3 when not (sound s) ∷ more

  abbrev call : Verdict Layout
  call = lowest (size_reasons told (length result) (length work) reasons) then λ _. v

  -- 1 or 2, as the arguments were asked whether one has too many axes
  module _ {o : Bool} (o_is : o ≡ told) {r : (Result ⊤ Refusal)} (sizes : SizesAre o (length result) (length work) r) where
    pub record_early : {why : Refusal} → r ≡ Err why → Ends (in_form encode call) result work (Err why) result work
    record_early e = ends_early told reasons v result work (refused_told o_is sizes e)

    pub record_kept : r ≡ Ok tt → SizesKept told (length result) (length work)
    record_kept e = kept_told o_is sizes e

  module _ (k : SizesKept told (length result) (length work)) (late : Reasons AboveTwo more) where
    -- 3: the record is not sound
    pub record_unsound : {q : (Option Head)} {r : (Result ℕ Refusal)} {work' : List ℤ} → q ≡ sound_head s → q ≡ None →
        (r ≡ Err Unsound) × (work' ≡ over (zeros work_size) work) → Ends (in_form encode call) result work r result work'
    unfolding number_of
    record_unsound e f g =
        ends_late told reasons v result work k (omega arith, late) {why = Unsound}
        (reason_holds 3 (not (sound s)) more (rw (no_head s e f))) g

    module _ {x : Head} (p : SoundRecord x s) where
      passed : lowest reasons ≡ lowest more
      passed = reason_passed 3 (not (sound s)) more (rw p.judged)

      -- a reason behind 3
      pub record_later : {why : Refusal} {r : (Result ℕ Refusal)} {work' : List ℤ} → lowest more ≡ refused (number_of why) →
          (r ≡ Err why) × (work' ≡ over (zeros work_size) work) → Ends (in_form encode call) result work r result work'
      record_later e g = ends_late told reasons v result work k (omega arith, late) (passed ∙ e) g

      -- no reason holds: the part came back from the step
      module _ {step : (Result ⊤ Refusal)} {t : List ℤ} (same : length t ≡ length (lent_of 0 part_size work)) (says : Says v 0 t step) where
        pub record_says : Says v 0 (back_in 0 part_size work t) step
        record_says = part_says work k.work_long t same says

        pub record_done : lowest more ≡ given tt → Late v → {result' work' : List ℤ} {r : (Result ℕ Refusal)} →
            Finished step 0 (back_in 0 part_size work t) result r work' result' → Ends (in_form encode call) result work r result' work'
        record_done e low f =
            ends_done told reasons v result work k (passed ∙ e) low record_says
            (only_wider (part_only work k.work_long t same) 0 work_size (omega arith) (omega arith)) f
