-- The lines of a record whose sections begin at places given.
use Rattle.std.specs.Prelude.{List, ◌++◌, ℕ, ◌-◌, ◌≤◌, ℤ}
use Rattle.rules.specs.Buffers.{part}
use Rattle.text.specs.Written.{line_text}

-- the numbers between two places as a line
abbrev pub line_from : ℕ → ℕ → List ℤ → List ℕ
line_from from to s = line_text (part from (to - from) s)

-- kind and D, extents, rows, state dependencies, input dependencies
abbrev pub five_lines : ℕ → ℕ → ℕ → ℕ → List ℤ → List ℕ
five_lines rows states inputs end s = line_from 0 2 s ++ line_from 2 rows s ++ line_from rows states s ++ line_from states inputs s ++ line_from inputs end s

-- they follow one another in a slice of so many numbers
pub record InTurn (rows states inputs end size : ℕ) : Type 0 where
  pub extents_end : 2 ≤ rows
  pub rows_end : rows ≤ states
  pub states_end : states ≤ inputs
  pub inputs_end : inputs ≤ end
  pub inside : end ≤ size
