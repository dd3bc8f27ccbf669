-- A text as a list of numbers.
use Rattle.std.specs.Prelude.{◌≡◌, List, ℕ, ◌≤◌, ltb, ℤ, length, take, Option, Some, None}
use Rattle.rules.specs.Lists.{if}
use Rattle.text.specs.Read.{Reading, numbers, other, read_text}

-- a text of more than 65,536 bytes is no list of numbers
unfoldable pub text_reading : List ℕ → Reading
text_reading text = if (ltb 65536 (length text)) other (read_text text)

-- the numbers of a text are the first n of a slice
pub record ListFront (text : List ℕ) (slice : List ℤ) (n : ℕ) : Type 0 where
  pub reads : text_reading text ≡ numbers (take n slice)
  pub fits : n ≤ length slice

-- an answer goes by whether there are numbers
abbrev pub ListRead : List ℕ → List ℤ → Option ℕ → Type 0
ListRead text slice (Some n) = ListFront text slice n
ListRead text slice None = text_reading text ≡ other
