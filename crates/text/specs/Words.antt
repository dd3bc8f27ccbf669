-- A text read as the loop goes, byte by byte: a word as far as it is read, and what it says when it ends.
use Rattle.std.specs.Prelude.{List, [], ◌∷◌, ℕ, ◌+◌, ◌*◌, ◌-◌, ◌^◌, ◌<◌, ◌≤◌, eqb, leb, pos, neg_ℤ, Option, Some, None}
use Prim.{Unit}
use Rattle.rules.specs.Lists.{if}
use Rattle.text.specs.declared.Word.{Word}
use Rattle.text.specs.declared.Word.TheVariants.{Nothing, Minus, Natural, Negative, Broken}
use Rattle.text.specs.Read.{Reading, numbers, other, is_gap, is_digit, both}

-- a value with one digit more; for a byte that is no digit, a value above every number's
abbrev pub grown_of : ℕ → ℕ → ℕ
grown_of value b = if (is_digit b) (value * 10 + (b - 48)) (2 ^ 31 + 1)

-- the same if it is within the limit
abbrev pub grown_within : ℕ → ℕ → ℕ → Option ℕ
grown_within value b limit = if (leb (grown_of value b) limit) (Some (grown_of value b)) None

-- a word with that value, if it is within the limit
abbrev pub within : (ℕ → Word) → ℕ → ℕ → Word
within kind limit value = if (leb value limit) (kind value) Broken

-- the words of digits, and of a minus and digits
abbrev pub natural_word : ℕ → Word
natural_word value = within Natural (2 ^ 31 - 1) value

abbrev pub negative_word : ℕ → Word
negative_word value = within Negative (2 ^ 31) value

-- a word with one byte more
unfoldable pub next_of : Word → ℕ → Word
next_of Nothing b = if (eqb b 45) Minus (natural_word (grown_of 0 b))
next_of Minus b = negative_word (grown_of 0 b)
next_of (Natural value) b = natural_word (grown_of value b)
next_of (Negative value) b = negative_word (grown_of value b)
next_of Broken b = Broken

-- what a word says that ends
unfoldable pub ending : Word → Reading
ending Nothing = numbers []
ending Minus = other
ending (Natural value) = numbers (pos value ∷ [])
ending (Negative value) = numbers (neg_ℤ (pos value) ∷ [])
ending Broken = other

-- the rest of a text in which a word was begun
unfoldable pub read_on : Word → List ℕ → Reading
read_on word [] = ending word
read_on word (b ∷ text) = if (is_gap b) (both (ending word) (read_on Nothing text)) (read_on (next_of word b) text)

-- a word's value fits 32 bits
abbrev pub Small : Word → Type 0
Small Nothing = Unit {0}
Small Minus = Unit {0}
Small (Natural value) = value < 2 ^ 31
Small (Negative value) = value ≤ 2 ^ 31
Small Broken = Unit {0}

-- 1 in a word, 0 between words
abbrev pub begun : Word → ℕ
begun Nothing = 0
begun Minus = 1
begun (Natural value) = 1
begun (Negative value) = 1
begun Broken = 1
