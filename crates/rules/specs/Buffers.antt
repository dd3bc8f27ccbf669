-- Numbers in a lent slice: a part of it, and what it holds after a part was written.
use Rattle.std.specs.Prelude.{List, ◌++◌, ℕ, length, take, drop, replicate, ℤ, pos}

-- n elements from a on
unfoldable pub part : {A : Type 0} → ℕ → ℕ → List A → List A
part a n old = take n (drop a old)

-- the old numbers with new ones from the front on; those behind them stay
unfoldable pub over : List ℤ → List ℤ → List ℤ
over new old = new ++ drop (length new) old

-- the old numbers with new ones from a on; all others stay
unfoldable pub put : ℕ → List ℤ → List ℤ → List ℤ
put a new old = take a old ++ over new (drop a old)

-- n zeros
abbrev pub zeros : ℕ → List ℤ
zeros n = replicate n (pos 0)
