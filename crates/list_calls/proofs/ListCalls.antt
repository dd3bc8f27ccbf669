-- How a call on a list ends that is lent a result and a working buffer: over whatever is over its limit, the test whether all records are
-- sound, any reasons behind 3 and any verdict of its step, which is lent the window. Assumes nothing.
use Rattle.std.specs.Prelude.{Err, Result, ⊤}
use mathlib.Core.Path.{◌≡◌, ◌∙◌}
use mathlib.Core.Bool.{Bool, true, false, not}
use mathlib.Core.List.{List, ◌∷◌}
use Prim.Native.Nat.{ℕ, ◌+◌, ◌≤◌}
use native.Mathlib.Omega.{arith}
use lib.IntN.{ℤ}
use lib.ListN.{length}
use Rattle.rules.specs.declared.Refusal.{Refusal}
use Rattle.rules.specs.declared.Refusal.TheVariants.{Unsound}
use Rattle.rules.specs.Limits.{work_size}
use Rattle.rules.specs.Buffers.{over, zeros}
use Rattle.rules.specs.Refusals.{Verdict, given, refused, in_form, number_of, Reason, ◌when◌, ◌then◌, lowest}
use Rattle.rules.specs.Layout.{Layout, encode}
use Rattle.rules.specs.Endings.{Ends}
use Rattle.rules.proofs.Refusing.{Reasons}
use Rattle.tables.proofs.Only.{only_wider}
use Rattle.parts.specs.Parts.{part_size, window_size}
use Rattle.parts.specs.Answers.{Says, Finished}
use Rattle.parts.proofs.Ending.{AboveTwo, Late}
use Rattle.parts.proofs.Lent.{lent_of, back_in, back_says}
use Rattle.parts.proofs.Windows.{window_only}
use Rattle.judging.specs.LentSizes.{size_reasons, SizesKept, SizesAre}
use Rattle.judging.proofs.Judged.{reason_holds, reason_passed}
use Rattle.judging.proofs.LentSizes.{refused_told}
use Rattle.judging.proofs.Endings.{ends_early, ends_late, ends_done}

module _ (told good : Bool) (more : List Reason) (v : Verdict Layout) (result work : List ℤ) where
  -- 3 and what else the call can be refused for
  abbrev reasons : List Reason
  reasons = 3 when not good ∷ more

  abbrev call : Verdict Layout
  call = lowest (size_reasons told (length result) (length work) reasons) then λ _. v

  -- 1 or 2
  pub list_early : {o : Bool} → o ≡ told → {r : (Result ⊤ Refusal)} → SizesAre o (length result) (length work) r → {why : Refusal} → r ≡ Err why →
      Ends (in_form encode call) result work (Err why) result work
  list_early o_is sizes e = ends_early told reasons v result work (refused_told o_is sizes e)

  module _ (k : SizesKept told (length result) (length work)) where
    -- the window came back from the step
    pub list_says : (at : ℕ) → at + part_size ≤ window_size → {step : (Result ⊤ Refusal)} {w : List ℤ} → length w ≡ length (lent_of 0 window_size work) → Says v at w step →
        Says v at (back_in 0 window_size work w) step
    list_says at inside {w = w} same says = back_says 0 window_size work (omega arith) (omega (arith, k.work_long)) w same at at (omega arith) inside says

    module _ (late : Reasons AboveTwo more) where
      -- 3: not all records are sound
      pub list_unsound : good ≡ false → {r : (Result ℕ Refusal)} {work' : List ℤ} → (r ≡ Err Unsound) × (work' ≡ over (zeros work_size) work) →
          Ends (in_form encode call) result work r result work'
      unfolding number_of
      list_unsound e f = ends_late told reasons v result work k (omega arith, late) {why = Unsound} (reason_holds 3 (not good) more (rw e)) f

      module _ (e : good ≡ true) where
        passed : lowest reasons ≡ lowest more
        passed = reason_passed 3 (not good) more (rw e)

        -- a reason behind 3
        pub list_later : {why : Refusal} {r : (Result ℕ Refusal)} {work' : List ℤ} → lowest more ≡ refused (number_of why) →
            (r ≡ Err why) × (work' ≡ over (zeros work_size) work) → Ends (in_form encode call) result work r result work'
        list_later f g = ends_late told reasons v result work k (omega arith, late) (passed ∙ f) g

        -- no reason holds
        pub list_done : lowest more ≡ given tt → Late v → (at : ℕ) → at + part_size ≤ window_size → {step : (Result ⊤ Refusal)} {w : List ℤ} → length w ≡ length (lent_of 0 window_size work) →
            Says v at w step → {result' work' : List ℤ} {r : (Result ℕ Refusal)} → Finished step at (back_in 0 window_size work w) result r work' result' →
            Ends (in_form encode call) result work r result' work'
        list_done f low at inside {w = w} same says g =
            ends_done told reasons v result work k (passed ∙ f) low (list_says at inside same says)
            (only_wider (window_only work k.work_long w same) 0 work_size (omega arith) (omega arith)) g
