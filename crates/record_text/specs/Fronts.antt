-- A text at the front of a slice of bytes.
use Rattle.std.specs.Prelude.{◌≡◌, List, ℕ, take}
use Rattle.io.specs.Counts.{IsPrefixLen}

-- the first n bytes of the slice are the text
pub record Front (text slice : List ℕ) (n : ℕ) : Type 0 where
  pub counts : IsPrefixLen n slice
  pub is : take n slice ≡ text
