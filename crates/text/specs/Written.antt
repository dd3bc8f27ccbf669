-- Numbers written as text: digits, parted by a space, a newline at the end of a line.
use Rattle.std.specs.Prelude.{List, [], ◌∷◌, ◌++◌, ℕ, zero, suc, ◌+◌, ◌/◌, ◌%◌, ltb, ℤ, pos, negsuc}
use Rattle.rules.specs.Lists.{if}

-- the decimal digits of a number, in at most so many places
unfoldable pub digits_in : ℕ → ℕ → List ℕ
digits_in zero n = []
digits_in (suc places) n = if (ltb n 10) ((48 + n) ∷ []) (digits_in places (n / 10) ++ ((48 + n % 10) ∷ []))

-- a number of 32 bits has at most ten digits
abbrev pub digits : ℕ → List ℕ
digits n = digits_in 10 n

-- a minus before the digits of a negative number
unfoldable pub number_text : ℤ → List ℕ
number_text (pos n) = digits n
number_text (negsuc n) = 45 ∷ digits (suc n)

-- the other numbers of a line, each after a space; then the newline
unfoldable pub rest_text : List ℤ → List ℕ
rest_text [] = 10 ∷ []
rest_text (z ∷ line) = 32 ∷ number_text z ++ rest_text line

-- a line of numbers
unfoldable pub line_text : List ℤ → List ℕ
line_text [] = 10 ∷ []
line_text (z ∷ line) = number_text z ++ rest_text line

-- number i of a line: after a space, unless it is the first
unfoldable pub item_text : ℕ → ℤ → List ℕ
item_text zero z = number_text z
item_text (suc i) z = 32 ∷ number_text z
