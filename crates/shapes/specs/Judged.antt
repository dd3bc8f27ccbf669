-- What is known of shapes once they were judged, and the words that the contracts are written in.
use Rattle.std.specs.Prelude.{◌≡◌, Bool, true, false, ◌&&◌, ◌||◌, List, ℕ, eqb, leb, ℤ, length}
use Rattle.rules.specs.Limits.{rank_limit}
use Rattle.rules.specs.Record.{good_shape}
use Rattle.rules.specs.Arguments.{over_shape, good_components}

-- a shape that was not refused
pub record Judged (s : List ℤ) : Type 0 where
  pub small : over_shape s ≡ false
  pub good : good_shape s ≡ true

-- an axis stretches from extent 1 to any but 0, and from each extent to itself
abbrev pub axis_stretches : ℕ → ℕ → Bool
axis_stretches to source = leb source to && (eqb source 1 || eqb source to)

-- indices of one length up to 4
abbrev pub comparable_indices : List ℤ → List ℤ → Bool
comparable_indices a b = eqb (length a) (length b) && leb (length a) rank_limit && good_components a && good_components b
