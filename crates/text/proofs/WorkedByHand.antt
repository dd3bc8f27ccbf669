-- Texts and their numbers, worked by hand; each holds by computation. Assumes nothing.
use mathlib.Core.Path.{◌≡◌, refl}
use mathlib.Core.List.{[], ◌∷◌}
use lib.IntN.{pos, negsuc}
use Rattle.rules.specs.Lists.{all, none}
use Rattle.text.specs.Read.{numbers, other, value_from, word_of, read_from, read_text}
use Rattle.text.specs.Written.{digits_in, number_text, rest_text, line_text}

pub record Table : Type 0 where
  -- "", " ", "-", "-0", "007", "+1"
  empty : read_text [] ≡ numbers []
  space : read_text (32 ∷ []) ≡ numbers []
  minus : read_text (45 ∷ []) ≡ other
  minus_zero : read_text (45 ∷ 48 ∷ []) ≡ numbers (pos 0 ∷ [])
  zeros_in_front : read_text (48 ∷ 48 ∷ 55 ∷ []) ≡ numbers (pos 7 ∷ [])
  plus : read_text (43 ∷ 49 ∷ []) ≡ other
  -- "1 2", a newline and "3"; "1-2"; a tab between 1 and 2
  two_lines : read_text (49 ∷ 32 ∷ 50 ∷ 10 ∷ 51 ∷ []) ≡ numbers (pos 1 ∷ pos 2 ∷ pos 3 ∷ [])
  minus_inside : read_text (49 ∷ 45 ∷ 50 ∷ []) ≡ other
  tab : read_text (49 ∷ 9 ∷ 50 ∷ []) ≡ other
  -- 2147483647, 2147483648, -2147483648, -2147483649
  largest : read_text (50 ∷ 49 ∷ 52 ∷ 55 ∷ 52 ∷ 56 ∷ 51 ∷ 54 ∷ 52 ∷ 55 ∷ []) ≡ numbers (pos 2147483647 ∷ [])
  too_large : read_text (50 ∷ 49 ∷ 52 ∷ 55 ∷ 52 ∷ 56 ∷ 51 ∷ 54 ∷ 52 ∷ 56 ∷ []) ≡ other
  least : read_text (45 ∷ 50 ∷ 49 ∷ 52 ∷ 55 ∷ 52 ∷ 56 ∷ 51 ∷ 54 ∷ 52 ∷ 56 ∷ []) ≡ numbers (negsuc 2147483647 ∷ [])
  too_little : read_text (45 ∷ 50 ∷ 49 ∷ 52 ∷ 55 ∷ 52 ∷ 56 ∷ 51 ∷ 54 ∷ 52 ∷ 57 ∷ []) ≡ other
  -- -2147483648, the line 10 -1 0, and the line of no numbers
  least_text : number_text (negsuc 2147483647) ≡ 45 ∷ 50 ∷ 49 ∷ 52 ∷ 55 ∷ 52 ∷ 56 ∷ 51 ∷ 54 ∷ 52 ∷ 56 ∷ []
  line : line_text (pos 10 ∷ negsuc 0 ∷ pos 0 ∷ []) ≡ 49 ∷ 48 ∷ 32 ∷ 45 ∷ 49 ∷ 32 ∷ 48 ∷ 10 ∷ []
  no_numbers : line_text [] ≡ 10 ∷ []

pub table : Table
unfolding read_from word_of value_from digits_in number_text rest_text line_text all none
table = record {
  empty = refl;
  space = refl;
  minus = refl;
  minus_zero = refl;
  zeros_in_front = refl;
  plus = refl;
  two_lines = refl;
  minus_inside = refl;
  tab = refl;
  largest = refl;
  too_large = refl;
  least = refl;
  too_little = refl;
  least_text = refl;
  line = refl;
  no_numbers = refl;
}
