-- How a call ends: its answer, and what the lent buffers then hold, or which part of a lent slice is handed back.
use Rattle.std.specs.Prelude.{Err, None, Ok, Option, Result}
use Rattle.rules.specs.declared.Refusal.{Refusal}
use Rattle.std.specs.Prelude.{◌≡◌, ◌||◌, List, ℕ, length, eqb, ℤ, ⊤, Some, None}
use borrow.Rule.Slice.Shared.{by_size}
use Rattle.std.specs.Borrow.{Bor}
use Rattle.rules.specs.declared.Tuple.{Tuple}
use Rattle.rules.specs.Limits.{work_size, rank_limit}
use Rattle.rules.specs.Lists.{if, fit_to}
use Rattle.rules.specs.Buffers.{over, zeros}
use Rattle.rules.specs.Refusals.{Verdict, given, refused, in_form, number_of}
use Rattle.rules.specs.Layout.{Layout}

-- ---- what an answer says: its value, or the number of its refusal

abbrev pub says : {A : Type 0} → Result A Refusal → Verdict A
says (Ok x) = given x
says (Err why) = refused (number_of why)

-- what a lookup finds
pub data Lookup : Type 0 where
  found : ℕ → Lookup
  nothing : Lookup

-- a place, or none, as what a lookup finds
abbrev pub lookup_of : Option ℕ → Lookup
lookup_of (Some n) = found n
lookup_of None = nothing

abbrev pub place_says : Result (Option ℕ) Refusal → Verdict Lookup
place_says r = in_form lookup_of (says r)

-- a step says the layout that it made
abbrev pub step_says : Result ⊤ Refusal → Layout → Verdict Layout
step_says r l = in_form (λ _. l) (says r)

-- a shape or an index by value: how many numbers it has, and they, then zeros
abbrev pub tuple_of : List ℕ → Tuple
tuple_of numbers = record { count = length numbers; numbers = fit_to rank_limit 0 numbers }

-- a shape or an index answered by value
abbrev pub TupleIs : Verdict (List ℕ) → Result Tuple Refusal → Type 0
TupleIs v r = says r ≡ in_form tuple_of v

-- ---- buffers

-- the numbers are written over the front of the result and those behind them stay; a refusal leaves it unchanged
unfoldable pub result_after : Verdict (List ℤ) → List ℤ → List ℤ
result_after (given numbers) old = over numbers old
result_after (refused n) old = old

-- unless 1 or 2 is given, the first 10,812 numbers of the working buffer end as zeros and the rest stays
unfoldable pub work_after : Verdict (List ℤ) → List ℤ → List ℤ
work_after (given numbers) old = over (zeros work_size) old
work_after (refused n) old = if (eqb n 1 || eqb n 2) old (over (zeros work_size) old)

-- the end of a call that is lent a result: the answer is how many numbers were written
pub record EndsIn (v : Verdict (List ℤ)) (result : List ℤ) (r : Result ℕ Refusal) (result' : List ℤ) : Type 0 where
  pub answer : says r ≡ in_form length v
  pub result_is : result' ≡ result_after v result

-- the end of a call that is lent a result and a working buffer
pub record Ends (v : Verdict (List ℤ)) (result work : List ℤ) (r : Result ℕ Refusal) (result' work' : List ℤ) : Type 0 where
  pub answer : says r ≡ in_form length v
  pub result_is : result' ≡ result_after v result
  pub work_is : work' ≡ work_after v work

-- ---- a part of a lent slice that is handed back

-- it begins k numbers of four bytes behind the slice's begin: it is that very part, and no other with the same numbers
pub record BeginsAt (k : ℕ) (s r : Bor (List ℤ)) : Type 0 where
  pub there : r.ref_ptr ≡ (s.ref_ptr.0, by_size 4 k s.ref_ptr.1)
