-- What is made of two records before the pile is written.
use Rattle.std.specs.Prelude.{Err, Ok, Result, ⊤}
use Rattle.rules.specs.declared.Refusal.{Refusal}
use Rattle.std.specs.Prelude.{◌≡◌, not, ◌&&◌, ◌||◌, List, [], ◌∷◌, ℕ, ℤ}
use Rattle.rules.specs.Limits.{result_size, work_size}
use Rattle.rules.specs.Buffers.{part, put}
use Rattle.rules.specs.Refusals.{Verdict, given, refused, in_form, number_of, ◌then◌, ◌when◌, lowest}
use Rattle.rules.specs.Layout.{Layout, encode}
use Rattle.rules.specs.Record.{layout_in, sound, ordered}
use Rattle.rules.specs.Arguments.{over_record}
use Rattle.rules.specs.Union.{union}
use Rattle.rules.specs.Intersect.{intersect}
use Rattle.tables.specs.Tables.{Only}
use Rattle.parts.specs.Parts.{left, right, target, layout_at, Holds, Window}
use Rattle.parts.specs.Answers.{Says}

-- ---- two records

-- the part behind the window
abbrev pub sixth : ℕ
sixth = 9010

-- the union of the two layouts at the front stands in the sixth part, and the two stay
pub record United (s t : List ℤ) (r : Result ⊤ Refusal) : Type 0 where
  pub says : Says (union (layout_at left s) (layout_at right s)) sixth t r
  pub window : Window t
  pub left_stays : layout_at left t ≡ layout_at left s
  pub right_stays : layout_at right t ≡ layout_at right s
  pub only : Only 0 work_size s t

-- the union and the intersection of two layouts
pub record Both : Type 0 where
  pub united : Layout
  pub common : Layout

-- 3, then the union; 4, then the intersection
unfoldable pub both_of : List ℤ → List ℤ → Verdict Both
both_of s t =
    lowest (3 when not (sound s && sound t) ∷ []) then λ _.
    union (layout_in s) (layout_in t) then λ either.
    lowest (4 when not (ordered s && ordered t) ∷ []) then λ _.
    intersect (layout_in s) (layout_in t) then λ both.
    given (record { united = either; common = both })

-- what is said of the sixth part and the target
abbrev pub both_said : Result ⊤ Refusal → List ℤ → Verdict Both
both_said (Ok tt) work = given (record { united = layout_at sixth work; common = layout_at target work })
both_said (Err why) work = refused (number_of why)

-- both stand there, or one of the two is refused
pub record BothMade (s t work work' : List ℤ) (r : Result ⊤ Refusal) : Type 0 where
  pub says : both_said r work' ≡ both_of s t
  pub united_holds : r ≡ Ok tt → Holds sixth work'
  pub common_holds : r ≡ Ok tt → Holds target work'
  pub only : Only 0 work_size work work'

-- ---- an exchange

-- the pile with both in the slots at a and at b
abbrev pub with_both : ℕ → ℕ → List ℤ → Both → List ℤ
with_both a b pile made = put b (encode made.common) (put a (encode made.united) pile)

-- 1, then what is made of the slots at a and at b
unfoldable pub slots_call : List ℤ → ℕ → ℕ → Verdict (List ℤ)
slots_call pile a b =
    let s : List ℤ = part a result_size pile in
    let t : List ℤ = part b result_size pile in
    lowest (1 when (over_record s || over_record t) ∷ []) then λ _. in_form (with_both a b pile) (both_of s t)
