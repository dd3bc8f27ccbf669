-- A slice of signed numbers as natural numbers, and one such number as what a reader asks of it.
use Rattle.std.specs.Prelude.{None, Option, Some}
use Rattle.std.specs.Prelude.{List, [], ◌∷◌, ℕ, ◌+◌, ◌<◌, ◌^◌, ltb, ℤ, pos, negsuc, get_or}
use Rattle.rules.specs.RowsInOrder.{by_first}
use Rattle.std.specs.declared.cmp.Ordering.{Ordering}
use Rattle.std.specs.declared.cmp.Ordering.TheVariants.{Equal}

-- n for n, and 2 ^ 31 + n for -(n + 1): no two 32-bit numbers have one code, and a negative one's is above every natural one's
abbrev pub code : ℤ → ℕ
code (pos n) = n
code (negsuc n) = 2 ^ 31 + n

-- the code of each number
unfoldable pub view : List ℤ → List ℕ
view [] = []
view (z ∷ l) = code z ∷ view l

-- every number is below 2 ^ 31: in a view, none is negative
abbrev pub Low : List ℕ → Type 0
Low l = (k : ℕ) → get_or l k 0 < 2 ^ 31

-- a natural number, or a negative one
unfoldable pub sign_of : ℤ → Option ℕ
sign_of (pos n) = Some n
sign_of (negsuc n) = None

-- the natural number, 0 for a negative one
abbrev pub size_of : Option ℕ → ℕ
size_of (Some n) = n
size_of None = 0

-- how two numbers compare
abbrev pub cmp_numbers : ℕ → ℕ → Ordering
cmp_numbers x y = by_first (ltb x y) (ltb y x) Equal
