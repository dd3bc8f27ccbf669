-- Where the numbers of a text, and the bytes of a number, are put.
use Rattle.std.specs.Prelude.{◌≡◌, List, ◌++◌, ℕ, ◌+◌, ◌≤◌, ℤ, length, take, drop, Option, Some, None}
use Rattle.rules.specs.Buffers.{over, put}
use Rattle.text.specs.Read.{Reading, numbers, other, read_text}

-- the numbers of a reading stand from a on, and end before n
pub record Stand (a : ℕ) (reading : Reading) (old now : List ℤ) (n : ℕ) : Type 0 where
  pub list : List ℤ
  pub reads : reading ≡ numbers list
  pub count : a + length list ≡ n
  pub is : now ≡ put a list old

-- the numbers of a text stand at the front, n of them
pub record Front (text : List ℕ) (old now : List ℤ) (n : ℕ) : Type 0 where
  pub list : List ℤ
  pub reads : read_text text ≡ numbers list
  pub count : length list ≡ n
  pub fits : n ≤ length old
  pub is : now ≡ over list old

-- an answer goes by whether there are numbers
abbrev pub Placed : ℕ → Reading → List ℤ → List ℤ → Option ℕ → Type 0
Placed a reading old now (Some n) = Stand a reading old now n
Placed a reading old now None = reading ≡ other

abbrev pub ReadInto : List ℕ → List ℤ → List ℤ → Option ℕ → Type 0
ReadInto text old now (Some n) = Front text old now n
ReadInto text old now None = read_text text ≡ other

-- the old bytes with new ones from a on; all others stay
unfoldable pub put_bytes : ℕ → List ℕ → List ℕ → List ℕ
put_bytes a new old = take a old ++ (new ++ drop (a + length new) old)

-- new bytes, at most so many, were written from a on, and r is the place behind them
pub record Wrote (most a : ℕ) (new old now : List ℕ) (r : ℕ) : Type 0 where
  pub short : length new ≤ most
  pub end : r ≡ a + length new
  pub is : now ≡ put_bytes a new old
