-- Numbers in a text: an optional minus and digits, parted by spaces and newlines, any number of them, also in front and at the end.
use Rattle.std.specs.Prelude.{Bool, ◌&&◌, ◌||◌, List, [], ◌∷◌, ◌++◌, ℕ, ◌+◌, ◌*◌, ◌-◌, ◌^◌, eqb, leb, ℤ, pos, neg_ℤ}
use Rattle.rules.specs.Lists.{if, all, none}

-- a text as its numbers, or no such text
pub data Reading : Type 0 where
  numbers : List ℤ → Reading
  other : Reading

-- a space or a newline
abbrev pub is_gap : ℕ → Bool
is_gap b = eqb b 32 || eqb b 10

-- '0' to '9'
abbrev pub is_digit : ℕ → Bool
is_digit b = leb 48 b && leb b 57

-- the value of digits after those that make v
unfoldable pub value_from : ℕ → List ℕ → ℕ
value_from v [] = v
value_from v (b ∷ digits) = value_from (v * 10 + (b - 48)) digits

-- digits are a number if there are any, and if their value is at most the limit
abbrev pub is_number : ℕ → List ℕ → Bool
is_number limit digits = leb 1 (lib.ListN.length digits) && all is_digit digits && leb (value_from 0 digits) limit

-- a word that starts with a minus, and one that does not; numbers are those of 32 bits, and -0 is 0
unfoldable pub word_of : List ℕ → Reading
word_of [] = other
word_of (b ∷ word) =
    if (eqb b 45)
    (if (is_number (2 ^ 31) word) (numbers (neg_ℤ (pos (value_from 0 word)) ∷ [])) other)
    (if (is_number (2 ^ 31 - 1) (b ∷ word)) (numbers (pos (value_from 0 (b ∷ word)) ∷ [])) other)

-- two readings one after the other
abbrev pub both : Reading → Reading → Reading
both (numbers a) (numbers b) = numbers (a ++ b)
both (numbers a) other = other
both other r = other

-- the end of a word, if one was begun
abbrev pub word_end : List ℕ → Reading
word_end word = if (none word) (numbers []) (word_of word)

-- the rest of a text in which a word was begun: a gap ends it, any other byte goes on with it
unfoldable pub read_from : List ℕ → List ℕ → Reading
read_from word [] = word_end word
read_from word (b ∷ text) = if (is_gap b) (both (word_end word) (read_from [] text)) (read_from (word ++ (b ∷ [])) text)

-- a whole text
abbrev pub read_text : List ℕ → Reading
read_text text = read_from [] text
