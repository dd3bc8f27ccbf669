-- What the contract of a call determines: two outcomes that it allows are equal; and the numbers of refusals. Assumes nothing.
use Rattle.std.specs.Prelude.{Err, None, Ok, Option, Result, Some}
use mathlib.Core.Path.{◌≡◌, refl, sym, ◌∙◌, ap}
use mathlib.Core.List.{List}
use Prim.Native.Nat.{ℕ, ◌≤◌}
use native.Mathlib.Omega.{arith}
use lib.Dec.{eqb}
use lib.IntN.{ℤ}
use Rattle.rules.specs.declared.Refusal.{Refusal}
use Rattle.rules.specs.declared.Refusal.TheVariants.{OverCount, ShortBuffer, Unsound, Unordered, WrongArgument, ShapesDisagree, ScalarContracted, NoPermutation, SparseDivisor, Unjoinable, DenseAxes, MadeUnsound, MadeTooLarge}
use Rattle.rules.specs.declared.Tuple.{Tuple}
use Rattle.rules.specs.Lists.{if}
use Rattle.rules.specs.Refusals.{Verdict, given, refused, number_of}
use Rattle.rules.specs.Endings.{says, Lookup, found, nothing, place_says, TupleIs, EndsIn, Ends}

-- ---- a refusal is known by its number

refusal_of : ℕ → Refusal
refusal_of n =
    if (eqb n 1) OverCount (if (eqb n 2) ShortBuffer (if (eqb n 3) Unsound (if (eqb n 4) Unordered
    (if (eqb n 5) WrongArgument (if (eqb n 6) ShapesDisagree (if (eqb n 7) ScalarContracted (if (eqb n 8) NoPermutation
    (if (eqb n 9) SparseDivisor (if (eqb n 10) Unjoinable (if (eqb n 11) DenseAxes (if (eqb n 12) MadeUnsound
    MadeTooLarge)))))))))))

refusal_known : (x : Refusal) → refusal_of (number_of x) ≡ x
unfolding number_of refusal_of
refusal_known OverCount = refl
refusal_known ShortBuffer = refl
refusal_known Unsound = refl
refusal_known Unordered = refl
refusal_known WrongArgument = refl
refusal_known ShapesDisagree = refl
refusal_known ScalarContracted = refl
refusal_known NoPermutation = refl
refusal_known SparseDivisor = refl
refusal_known Unjoinable = refl
refusal_known DenseAxes = refl
refusal_known MadeUnsound = refl
refusal_known MadeTooLarge = refl

-- the numbers are 1 to 13
pub number_in_table : (x : Refusal) → (1 ≤ number_of x) × (number_of x ≤ 13)
unfolding number_of
number_in_table OverCount = omega arith
number_in_table ShortBuffer = omega arith
number_in_table Unsound = omega arith
number_in_table Unordered = omega arith
number_in_table WrongArgument = omega arith
number_in_table ShapesDisagree = omega arith
number_in_table ScalarContracted = omega arith
number_in_table NoPermutation = omega arith
number_in_table SparseDivisor = omega arith
number_in_table Unjoinable = omega arith
number_in_table DenseAxes = omega arith
number_in_table MadeUnsound = omega arith
number_in_table MadeTooLarge = omega arith

-- ---- an answer is known by what it says

-- where what is said can be read back, two answers that say the same are the same
one_answer : {R W : Type 0} (saying : R → W) (back : W → R) → ((r : R) → back (saying r) ≡ r) → (r r' : R) → saying r ≡ saying r' → r ≡ r'
one_answer saying back known r r' e = sym (known r) ∙ ap back e ∙ known r'

answer_back : {A : Type 0} → Verdict A → Result A Refusal
answer_back (given x) = Ok x
answer_back (refused n) = Err (refusal_of n)

answer_known : {A : Type 0} (r : Result A Refusal) → answer_back (says r) ≡ r
unfolding answer_back
answer_known (Ok x) = refl
answer_known (Err why) = ap Err (refusal_known why)

-- whatever is answered: a number, a test, a comparison, a shape
pub says_determined : {A : Type 0} (r r' : Result A Refusal) → says r ≡ says r' → r ≡ r'
says_determined = one_answer says answer_back answer_known

place_back : Lookup → Option ℕ
place_back (found n) = Some n
place_back nothing = None

verdict_back : Verdict Lookup → Result (Option ℕ) Refusal
verdict_back (given l) = Ok (place_back l)
verdict_back (refused n) = Err (refusal_of n)

place_known : (r : Result (Option ℕ) Refusal) → verdict_back (place_says r) ≡ r
unfolding verdict_back place_back
place_known (Ok (Some n)) = refl
place_known (Ok None) = refl
place_known (Err why) = ap Err (refusal_known why)

pub place_determined : (r r' : Result (Option ℕ) Refusal) → place_says r ≡ place_says r' → r ≡ r'
place_determined = one_answer place_says verdict_back place_known

-- an answer that is said outright, as a test of `sound` and `ordered` or the number of a refusal
pub value_determined : {A : Type 0} {v : A} (r r' : A) → r ≡ v → r' ≡ v → r ≡ r'
value_determined r r' p q = p ∙ sym q

-- ---- the outcomes of a call

-- a shape or an index by value
pub tuple_determined : (v : Verdict (List ℕ)) (r r' : Result Tuple Refusal) → TupleIs v r → TupleIs v r' → r ≡ r'
tuple_determined v r r' p q = says_determined r r' (p ∙ sym q)

-- the answer and the result
pub ends_in_determined : (v : Verdict (List ℤ)) (old : List ℤ) (r r' : Result ℕ Refusal) (result result' : List ℤ) →
    EndsIn v old r result → EndsIn v old r' result' → (r ≡ r') × (result ≡ result')
ends_in_determined v old r r' result result' p q =
    (says_determined r r' (p.answer ∙ sym q.answer), p.result_is ∙ sym q.result_is)

-- the answer and both buffers
pub ends_determined : (v : Verdict (List ℤ)) (old lent : List ℤ) (r r' : Result ℕ Refusal) (result result' work work' : List ℤ) →
    Ends v old lent r result work → Ends v old lent r' result' work' → (r ≡ r') × (result ≡ result') × (work ≡ work')
ends_determined v old lent r r' result result' work work' p q =
    (says_determined r r' (p.answer ∙ sym q.answer), p.result_is ∙ sym q.result_is, p.work_is ∙ sym q.work_is)
