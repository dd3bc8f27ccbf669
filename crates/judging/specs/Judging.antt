-- A shape beside a result, two records, a range and a mode, judged.
use Rattle.std.specs.Prelude.{Err, None, Ok, Option, Result, Some, ⊤}
use Rattle.rules.specs.declared.Refusal.{Refusal}
use Rattle.std.specs.Prelude.{◌≡◌, true, false, not, ◌&&◌, ◌||◌, List, [], ◌∷◌, ℕ, ◌≤◌, ℤ}
use Rattle.rules.specs.declared.Head.{Head}
use Rattle.rules.specs.declared.Mode.{Mode}
use Rattle.rules.specs.Limits.{result_size}
use Rattle.rules.specs.Refusals.{given, refused, number_of, Reason, ◌when◌, lowest}
use Rattle.rules.specs.Record.{natural, sound, good_shape}
use Rattle.rules.specs.Arguments.{over_record, over_shape, short_result, good_end, good_mode}
use Rattle.rules.specs.Stretching.{mode_of}
use Rattle.records.specs.Sound.{SoundRecord}
use Rattle.shapes.specs.Judged.{Judged}

-- ---- a shape

-- 1, 2 and 5 of a shape and a result
abbrev pub shape_reasons : List ℤ → ℕ → List Reason
shape_reasons s result = 1 when over_shape s ∷ 2 when short_result result ∷ 5 when not (good_shape s) ∷ []

-- none of them holds
pub record ShapeGood (s : List ℤ) (result : ℕ) : Type 0 where
  pub none_holds : lowest (shape_reasons s result) ≡ given tt
  pub shape : Judged s
  pub result_long : result_size ≤ result

abbrev pub ShapeIs : List ℤ → ℕ → Result ⊤ Refusal → Type 0
ShapeIs s result (Ok tt) = ShapeGood s result
ShapeIs s result (Err why) = lowest (shape_reasons s result) ≡ refused (number_of why)

-- ---- two records

-- 1 and 3 of two records
abbrev pub pair_reasons : List ℤ → List ℤ → List Reason
pair_reasons s t = 1 when (over_record s || over_record t) ∷ 3 when not (sound s && sound t) ∷ []

-- neither holds
pub record BothSound (s t : List ℤ) (x y : Head) : Type 0 where
  pub none_holds : lowest (pair_reasons s t) ≡ given tt
  pub first : SoundRecord x s
  pub second : SoundRecord y t

abbrev pub PairIs : List ℤ → List ℤ → (Result (Head × Head) Refusal) → Type 0
PairIs s t (Ok (x, y)) = BothSound s t x y
PairIs s t (Err why) = lowest (pair_reasons s t) ≡ refused (number_of why)

-- ---- a range

-- its start and its end are within their limit
pub record RangeGood (start end : ℤ) (from to : ℕ) : Type 0 where
  pub good : good_end start && good_end end ≡ true
  pub from_is : from ≡ natural start
  pub to_is : to ≡ natural end

abbrev pub RangeIs : ℤ → ℤ → (Option (ℕ × ℕ)) → Type 0
RangeIs start end (Some (from, to)) = RangeGood start end from to
RangeIs start end None = good_end start && good_end end ≡ false

-- ---- a mode of stretching

-- a number that names a mode
pub record ModeGood (number : ℤ) (mode : Mode) : Type 0 where
  pub good : good_mode number ≡ true
  pub is : mode ≡ mode_of number

abbrev pub ModeIs : ℤ → Option Mode → Type 0
ModeIs number (Some mode) = ModeGood number mode
ModeIs number None = good_mode number ≡ false
