-- How a broadcast of a list of records ends. Assumes nothing.
use Rattle.std.specs.Prelude.{Err, Ok, Result, ⊤}
use mathlib.Core.Path.{◌≡◌, sym, ap, ◌∙◌}
use mathlib.Core.Bool.{Bool, true, false, not, ◌||◌}
use mathlib.Core.List.{List, [], ◌∷◌, map}
use Prim.Native.Nat.{ℕ}
use native.Mathlib.Omega.{arith}
use borrow.Author.Tests.{not-true, not-false}
use lib.IntN.{ℤ}
use lib.ListN.{length}
use Rattle.rules.specs.declared.Refusal.{Refusal}
use Rattle.rules.specs.declared.Refusal.TheVariants.{Unsound, WrongArgument}
use Rattle.rules.specs.declared.Mode.{Mode}
use Rattle.rules.specs.declared.Rule.{Rule}
use Rattle.rules.specs.Limits.{work_size}
use Rattle.rules.specs.Lists.{all, any}
use Rattle.rules.specs.Buffers.{over, zeros}
use Rattle.rules.specs.Refusals.{Verdict, in_form, Reason, ◌when◌, ◌then◌, lowest}
use Rattle.rules.specs.Layout.{Layout, encode}
use Rattle.rules.specs.Record.{end_to_end, behind_record, list_count, records_in, layout_in, sound}
use Rattle.rules.specs.Arguments.{over_count, over_record, good_mode}
use Rattle.rules.specs.Endings.{Ends}
use Rattle.rules.specs.Stretching.{mode_of}
use Rattle.rules.specs.Broadcast.{rule_of, broadcast}
use Rattle.rules.proofs.BroadcastRefused.{broadcast_refusing}
use Rattle.parts.specs.Parts.{window_size, left}
use Rattle.parts.specs.Answers.{Says, Finished}
use Rattle.parts.proofs.Ending.{AboveTwo, Late}
use Rattle.parts.proofs.Lent.{lent_of, back_in}
use Rattle.lists.specs.Places.{standing, EachAt, PlacesOf}
use Rattle.lists.specs.Records.{JudgedRecord, layouts_at}
use Rattle.judging.specs.LentSizes.{size_reasons, SizesKept, SizesAre}
use Rattle.judging.specs.Judging.{ModeGood}
use Rattle.judging.proofs.Judged.{argument_wrong, argument_right, not_holds, not_fails}
use Rattle.judging.proofs.LentSizes.{kept_told, told_either}
use Rattle.list_calls.proofs.ListCalls.{list_early, list_says, list_unsound, list_later, list_done}

-- ---- the records of a list

-- the records at n places are those of the list
module _ (count : ℤ) (s : List ℤ) {n : ℕ} {places : List ℕ} (e : n ≡ list_count count) (p : PlacesOf (end_to_end behind_record n s) n s places) where
  pub records_are : standing n places s ≡ records_in count s
  records_are = p.begin ∙ rw e

  pub over_are : {b : Bool} → b ≡ any over_record (standing n places s) → b ≡ any over_record (records_in count s)
  over_are f = f ∙ ap (any over_record) records_are

-- ---- the call

-- refusals are above 2
late_broadcast : (mode : Mode) (layouts : List Layout) (rule : Rule) → Late (broadcast mode layouts rule)
late_broadcast = broadcast_refusing AboveTwo (omega arith) (omega arith) (omega arith) (omega arith) (omega arith)

module _ (s : List ℤ) (count : ℤ) (operator : ℕ) (mode : ℤ) (result work : List ℤ) where
  abbrev told : Bool
  told = over_count count || any over_record (records_in count s)

  abbrev good : Bool
  good = all sound (records_in count s)

  -- 5
  abbrev wrong : List Reason
  wrong = 5 when not (good_mode mode) ∷ []

  abbrev gives : Verdict Layout
  gives = broadcast (mode_of mode) (map layout_in (records_in count s)) (rule_of operator)

  abbrev call : Verdict Layout
  call = lowest (size_reasons told (length result) (length work) (3 when not good ∷ wrong)) then λ _. gives

  -- 1 or 2
  module _ {a b o : Bool} (a-is : a ≡ over_count count) (b-is : b ≡ any over_record (records_in count s)) (o_is : o ≡ a || b) where
    o_told : o ≡ told
    o_told = told_either (over_count count) (any over_record (records_in count s)) a-is b-is o_is

    module _ {r : (Result ⊤ Refusal)} (sizes : SizesAre o (length result) (length work) r) where
      pub broadcast_early : {why : Refusal} → r ≡ Err why → Ends (in_form encode call) result work (Err why) result work
      broadcast_early e = list_early told good wrong gives result work o_told sizes e

      pub broadcast_kept : r ≡ Ok tt → SizesKept told (length result) (length work)
      broadcast_kept e = kept_told o_told sizes e

  module _ (k : SizesKept told (length result) (length work)) (n : ℕ) (places : List ℕ) (are : standing n places s ≡ records_in count s) {t : Bool} (t-is : t ≡ all sound (standing n places s)) where
    good_told : good ≡ t
    good_told = ap (all sound) (sym are) ∙ sym t-is

    -- 3
    pub broadcast_unsound : not t ≡ true → {r : (Result ℕ Refusal)} {work' : List ℤ} → (r ≡ Err Unsound) × (work' ≡ over (zeros work_size) work) → Ends (in_form encode call) result work r result work'
    broadcast_unsound e f = list_unsound told good wrong gives result work k (omega arith, tt) (good_told ∙ not-true t e) f

    -- 5
    pub broadcast_wrong : not t ≡ false → good_mode mode ≡ false → {r : (Result ℕ Refusal)} {work' : List ℤ} → (r ≡ Err WrongArgument) × (work' ≡ over (zeros work_size) work) →
        Ends (in_form encode call) result work r result work'
    broadcast_wrong e w f =
        list_later told good wrong gives result work k (omega arith, tt) (good_told ∙ not-false t e) (argument_wrong (not (good_mode mode)) (not_fails (good_mode mode) w)) f

    -- no reason holds: the window came back from the step
    module _ {way : Mode} (m : ModeGood mode way) {rule : Rule} (rule-is : rule ≡ rule_of operator) {step : (Result ⊤ Refusal)} {w : List ℤ} (same : length w ≡ length (lent_of 0 window_size work))
        (says : Says (broadcast way (layouts_at n places s) rule) left w step) where
      said : Says gives left w step
      said = rw (← m.is, ← rule-is, ← are) says

      pub broadcast_says : Says gives left (back_in 0 window_size work w) step
      broadcast_says = list_says told good wrong gives result work k left (omega arith) same said

      pub broadcast_done : not t ≡ false → {result' work' : List ℤ} {r : (Result ℕ Refusal)} → Finished step left (back_in 0 window_size work w) result r work' result' →
          Ends (in_form encode call) result work r result' work'
      broadcast_done e f = list_done told good wrong gives result work k (omega arith, tt) (good_told ∙ not-false t e) (argument_right (not (good_mode mode)) (not_holds (good_mode mode) m.good)) (late_broadcast _ _ _) left (omega arith) same said f

-- what the step requires
pub records_judged : {n : ℕ} {places : List ℕ} {s : List ℤ} {t : Bool} → (t ≡ true → EachAt JudgedRecord n places s) → not t ≡ false → EachAt JudgedRecord n places s
records_judged {t = t} p e = p (not-false t e)
