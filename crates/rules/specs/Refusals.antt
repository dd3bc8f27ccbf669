-- What a call gives back: its answer, or the number of a refusal.
use Rattle.std.specs.Prelude.{Bool, List, [], ◌∷◌, ℕ}
use Rattle.rules.specs.declared.Refusal.{Refusal}
use Rattle.rules.specs.declared.Refusal.TheVariants.{OverCount, ShortBuffer, Unsound, Unordered, WrongArgument, ShapesDisagree, ScalarContracted, NoPermutation, SparseDivisor, Unjoinable, DenseAxes, MadeUnsound, MadeTooLarge}
use Rattle.rules.specs.Lists.{if}

-- the table of numbers
unfoldable pub number_of : Refusal → ℕ
number_of OverCount = 1
number_of ShortBuffer = 2
number_of Unsound = 3
number_of Unordered = 4
number_of WrongArgument = 5
number_of ShapesDisagree = 6
number_of ScalarContracted = 7
number_of NoPermutation = 8
number_of SparseDivisor = 9
number_of Unjoinable = 10
number_of DenseAxes = 11
number_of MadeUnsound = 12
number_of MadeTooLarge = 13

-- an answer, or the number of a refusal
pub data Verdict (A : Type 0) : Type 0 where
  given : A → Verdict A
  refused : ℕ → Verdict A

-- steps come one after the other: the first that is refused ends the call
infixl 20 ◌then◌
abbrev pub ◌then◌ : {A B : Type 0} → Verdict A → (A → Verdict B) → Verdict B
given a then next = next a
refused n then next = refused n

-- the same verdict, its answer in another form
abbrev pub in_form : {A B : Type 0} → (A → B) → Verdict A → Verdict B
in_form f (given a) = given (f a)
in_form f (refused n) = refused n

-- a number, and when it is given
infix 68 ◌when◌
pub data Reason : Type 0 where
  ◌when◌ : ℕ → Bool → Reason

-- within one step the lowest number that holds is given; reasons are listed in rising order
unfoldable pub lowest : List Reason → Verdict Unit
lowest [] = given tt
lowest ((n when holds) ∷ reasons) = if holds (refused n) (lowest reasons)
