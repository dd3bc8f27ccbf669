-- How a call ends that is lent a result and a working buffer, over any reasons behind 1 and 2 and any step behind them. Assumes nothing.
use Rattle.std.specs.Prelude.{Err, Result, ⊤}
use mathlib.Core.Path.{◌≡◌, refl, sym, subst}
use mathlib.Core.Bool.{Bool, true, false, ◌||◌}
use mathlib.Core.List.{List, [], ◌∷◌}
use Prim.Native.Nat.{ℕ, ◌≤◌}
use native.Mathlib.Omega.{arith}
use borrow.Author.Tests.{le-ltb}
use lib.Dec.{eqb}
use lib.IntN.{ℤ}
use lib.ListN.{length}
use Rattle.rules.specs.declared.Refusal.{Refusal}
use Rattle.rules.specs.Limits.{result_size, work_size}
use Rattle.rules.specs.Buffers.{over, zeros}
use Rattle.rules.specs.Refusals.{Verdict, given, refused, in_form, number_of, Reason, ◌when◌, ◌then◌, lowest}
use Rattle.rules.specs.Layout.{Layout, encode}
use Rattle.rules.specs.Endings.{Ends, result_after, work_after}
use Rattle.rules.proofs.Refusing.{Reasons, refusing_lowest}
use Rattle.tables.specs.Tables.{Only}
use Rattle.tables.proofs.Only.{only_same}
use Rattle.parts.specs.Answers.{Says, Finished}
use Rattle.parts.proofs.Ending.{AboveTwo, Late, call_finished, call_refused}
use Rattle.judging.specs.LentSizes.{size_reasons, SizesKept, SizesRefused}

-- 1 or 2 is given, whatever other reasons there are
early : (a b : Bool) (rest : List Reason) {n : ℕ} → lowest (1 when a ∷ 2 when b ∷ []) ≡ refused n →
    (lowest (1 when a ∷ 2 when b ∷ rest) ≡ refused n) × ((eqb n 1 || eqb n 2) ≡ true)
unfolding lowest
early true b rest {n} e = let is : n ≡ 1 = cc in (e, rw is)
early false true rest {n} e = let is : n ≡ 2 = cc in (e, rw is)
early false false rest e = let z : ◌≡◌ {A = ℕ} 0 1 = cc in absurd (omega arith)

-- where there is no reason, none holds
pub nothing_more : lowest [] ≡ given tt
unfolding lowest
nothing_more = refl

-- neither is: the other reasons decide
others : {told : Bool} {m n : ℕ} (rest : List Reason) → SizesKept told m n → lowest (size_reasons told m n rest) ≡ lowest rest
unfolding lowest
others {m = m} {n = n} rest k = rw (k.not_over, le-ltb m result_size k.result_long, le-ltb n work_size k.work_long)

-- a number that reasons above 2 give is above 2
number_late : (rest : List Reason) {n : ℕ} → Reasons AboveTwo rest → lowest rest ≡ refused n → 3 ≤ n
number_late rest late e = subst Late e (refusing_lowest AboveTwo rest late)

module _ (told : Bool) (rest : List Reason) (v : Verdict Layout) (result work : List ℤ) where
  -- a call: 1 and 2, its other reasons, what its step gives
  abbrev call : Verdict Layout
  call = lowest (size_reasons told (length result) (length work) rest) then λ _. v

  -- 1 or 2: both buffers stay
  pub ends_early : {why : Refusal} → SizesRefused told (length result) (length work) why → Ends (in_form encode call) result work (Err why) result work
  unfolding result_after work_after
  ends_early p =
      let e = early told _ rest p.is in
      record { answer = rw e.0; result_is = rw e.0; work_is = rw (e.0, e.1) }

  module _ (k : SizesKept told (length result) (length work)) where
    -- another reason: the working buffer is cleared
    pub ends_late : Reasons AboveTwo rest → {why : Refusal} {r : (Result ℕ Refusal)} {work' : List ℤ} → lowest rest ≡ refused (number_of why) →
        (r ≡ Err why) × (work' ≡ over (zeros work_size) work) → Ends (in_form encode call) result work r result work'
    ends_late late {why} e f =
        let is : call ≡ refused (number_of why) = rw (others rest k, e) in
        call_refused is (number_late rest late e) (only_same 0 work_size work) f

    -- no reason: what the step says is the answer
    pub ends_done : lowest rest ≡ given tt → Late v → {step : (Result ⊤ Refusal)} {at : ℕ} {now result' work' : List ℤ} {r : (Result ℕ Refusal)} →
        Says v at now step → Only 0 work_size work now → Finished step at now result r work' result' →
        Ends (in_form encode call) result work r result' work'
    ends_done e late says only f =
        let is : call ≡ v = rw (others rest k, e) in
        rw (sym is) at (call_finished says late only f)
