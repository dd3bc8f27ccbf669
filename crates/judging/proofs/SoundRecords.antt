-- What is judged of one record and of two, and what the steps require of them. Assumes nothing.
use Rattle.std.specs.Prelude.{Err, None, Option, Result, Some, Ok}
use mathlib.Core.Path.{◌≡◌, sym, ◌∙◌, subst}
use mathlib.Core.Bool.{Bool, true, false, not, ◌&&◌, ◌||◌}
use mathlib.Core.List.{List, ◌∷◌}
use lib.IntN.{ℤ}
use Rattle.rules.specs.declared.Head.{Head}
use Rattle.rules.specs.declared.Refusal.{Refusal}
use Rattle.rules.specs.declared.Refusal.TheVariants.{OverCount, Unsound}
use Rattle.rules.specs.Record.{layout_in, sound}
use Rattle.rules.specs.Arguments.{over_record}
use Rattle.rules.specs.Layout.{Layout}
use Rattle.rules.specs.Refusals.{Verdict, given, refused, number_of, Reason, ◌when◌, lowest}
use Rattle.rules.specs.CountsAndForms.{of_records}
use Rattle.records.specs.Sound.{SoundRecord, sound_head, ReadableHead}
use Rattle.records.proofs.SoundRecords.{no_head, sound_record}
use Rattle.judging.specs.Judging.{pair_reasons, BothSound, PairIs}
use Rattle.judging.proofs.Judged.{reason_holds, reason_passed}

-- ---- one record

-- one that has a head is sound
pub head_sound : (s : List ℤ) {r : (Option Head)} {h : Head} → r ≡ sound_head s → ReadableHead r s → r ≡ Some h → sound s ≡ true
head_sound s e p f = (sound_record s e p f).judged

pub ruleset heads = (no_head, sound_record, head_sound)

-- ---- two records, one after the other

module _ (s t : List ℤ) where
  -- the first has too many axes
  pub over_first : {a : Bool} → a ≡ over_record s → a ≡ true → (over_record s || over_record t) ≡ true
  over_first e f = rw (sym e ∙ f)

  -- the second has
  pub over_second : {a b : Bool} → a ≡ over_record s → a ≡ false → b ≡ over_record t → b ≡ true → (over_record s || over_record t) ≡ true
  over_second e f g k = rw (sym e ∙ f, sym g ∙ k)

  -- neither has
  pub record NoneOver : Type 0 where
    pub is : (over_record s || over_record t) ≡ false

  pub none_over : {a b : Bool} → a ≡ over_record s → a ≡ false → b ≡ over_record t → b ≡ false → NoneOver
  none_over e f g k = record { is = rw (sym e ∙ f, sym g ∙ k) }

  -- the first is not sound
  pub unsound_first : {r : (Option Head)} → r ≡ sound_head s → r ≡ None → (sound s && sound t) ≡ false
  unsound_first e f = rw (no_head s e f)

  -- the second is not
  pub unsound_second : {q r : (Option Head)} {x : Head} → q ≡ sound_head s → ReadableHead q s → q ≡ Some x → r ≡ sound_head t → r ≡ None →
      (sound s && sound t) ≡ false
  unsound_second d p g e f = rw (head_sound s d p g, no_head t e f)

pub ruleset pairs = (over_first, over_second, none_over, unsound_first, unsound_second, sound_record)

-- 3 of two records, before other reasons
module _ (s t : List ℤ) (rest : List Reason) where
  pub pair_unsound : (sound s && sound t) ≡ false → lowest (3 when not (sound s && sound t) ∷ rest) ≡ refused (number_of Unsound)
  unfolding number_of
  pair_unsound e = reason_holds 3 (not (sound s && sound t)) rest (rw e)

  pub pair_passed : {x y : Head} → SoundRecord x s → SoundRecord y t → lowest (3 when not (sound s && sound t) ∷ rest) ≡ lowest rest
  pair_passed p q = reason_passed 3 (not (sound s && sound t)) rest (rw (p.judged, q.judged))

-- ---- the ways out of `judge_pair`

module _ (s t : List ℤ) where
  -- 1
  pub two_over : (over_record s || over_record t) ≡ true → lowest (pair_reasons s t) ≡ refused (number_of OverCount)
  unfolding lowest number_of
  two_over e = rw e

  -- 3
  pub two_unsound : NoneOver s t → (sound s && sound t) ≡ false → lowest (pair_reasons s t) ≡ refused (number_of Unsound)
  unfolding lowest number_of
  two_unsound o e = rw (o.is, e)

  -- neither
  pub two_sound : NoneOver s t → {x y : Head} → SoundRecord x s → SoundRecord y t → BothSound s t x y
  unfolding lowest
  two_sound o p q = record { none_holds = rw (o.is, p.judged, q.judged); first = p; second = q }

pub ruleset two = (pairs, two_over, two_unsound, two_sound)

-- ---- what was judged of two records, by the case that was met

module _ (s t : List ℤ) {r : (Result (Head × Head) Refusal)} (p : PairIs s t r) where
  pub both_sound : {x y : Head} → r ≡ Ok (x, y) → BothSound s t x y
  both_sound e = subst (PairIs s t) e p

  -- the call is refused
  pub two_refused : {A : Type 0} (f : Layout → Layout → A) {why : Refusal} → r ≡ Err why → refused (number_of why) ≡ of_records f s t
  two_refused f {why} e = let is : lowest (pair_reasons s t) ≡ refused (number_of why) = subst (PairIs s t) e p in rw is

-- the call gives its answer
pub two_given : {A : Type 0} (f : Layout → Layout → A) {s t : List ℤ} {x y : Head} {v : Verdict A} → BothSound s t x y →
    v ≡ given (f (layout_in s) (layout_in t)) → v ≡ of_records f s t
two_given f b e = e ∙ rw b.none_holds
