-- Plain words on lists and tests that the rules are written in.
use Rattle.std.specs.Prelude.{Bool, true, false, ◌&&◌, ◌||◌, List, [], ◌∷◌, ◌++◌, ℕ, zero, suc, ◌+◌, ◌*◌, take, drop, replicate, eqb, ltb}

-- a or b, by a test
abbrev pub if : {A : Type 0} → Bool → A → A → A
if true a b = a
if false a b = b

-- if a holds, so does b
abbrev pub implies : Bool → Bool → Bool
implies true b = b
implies false b = true

-- every element passes the test
unfoldable pub all : {A : Type 0} → (A → Bool) → List A → Bool
all test [] = true
all test (x ∷ l) = test x && all test l

-- some element passes the test
unfoldable pub any : {A : Type 0} → (A → Bool) → List A → Bool
any test [] = false
any test (x ∷ l) = test x || any test l

-- an element before the others, if it passed
abbrev pub put_if : {A : Type 0} → Bool → A → List A → List A
put_if true x l = x ∷ l
put_if false x l = l

-- the elements that pass the test
unfoldable pub keep : {A : Type 0} → (A → Bool) → List A → List A
keep test [] = []
keep test (x ∷ l) = put_if (test x) x (keep test l)

-- what f gives for each element, one after the other
unfoldable pub gather : {A B : Type 0} → (A → List B) → List A → List B
gather f [] = []
gather f (x ∷ l) = f x ++ gather f l

-- no element at all
unfoldable pub none : {A : Type 0} → List A → Bool
none [] = true
none (x ∷ l) = false

-- from a on, n numbers: a, a + 1, ..
unfoldable pub from : ℕ → ℕ → List ℕ
from a zero = []
from a (suc n) = a ∷ from (suc a) n

-- 0, 1, .., n - 1
abbrev pub below : ℕ → List ℕ
below n = from 0 n

unfoldable pub product : List ℕ → ℕ
product [] = 1
product (x ∷ l) = x * product l

unfoldable pub sum : List ℕ → ℕ
sum [] = 0
sum (x ∷ l) = x + sum l

-- the larger of two numbers
abbrev pub larger : ℕ → ℕ → ℕ
larger x y = if (ltb x y) y x

-- the largest number, 0 of none
unfoldable pub largest : List ℕ → ℕ
largest [] = 0
largest (x ∷ l) = larger x (largest l)

-- two lists are the same, number by number
unfoldable pub same : List ℕ → List ℕ → Bool
same [] [] = true
same [] (y ∷ m) = false
same (x ∷ l) [] = false
same (x ∷ l) (y ∷ m) = eqb x y && same l m

-- two lists of rows are the same
unfoldable pub same_rows : List (List ℕ) → List (List ℕ) → Bool
same_rows [] [] = true
same_rows [] (q ∷ u) = false
same_rows (p ∷ t) [] = false
same_rows (p ∷ t) (q ∷ u) = same p q && same_rows t u

-- number by number, each one of the first list below that of the second; as far as both go
unfoldable pub all_below : List ℕ → List ℕ → Bool
all_below [] es = true
all_below (c ∷ cs) [] = true
all_below (c ∷ cs) (e ∷ es) = ltb c e && all_below cs es

-- the same numbers with v at place k
unfoldable pub with : ℕ → ℕ → List ℕ → List ℕ
with k v l = take k l ++ (v ∷ drop (suc k) l)

-- exactly n numbers: cut, or filled up with v
unfoldable pub fit_to : ℕ → ℕ → List ℕ → List ℕ
fit_to n v l = take n (l ++ replicate n v)
