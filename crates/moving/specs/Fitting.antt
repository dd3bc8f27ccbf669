-- Rows fitted to another length.
use Rattle.std.specs.Prelude.{◌⊎◌, ◌≡◌, List, ℕ, ◌+◌, ◌≤◌, ℤ, length}

-- r is the smaller of two numbers
pub record Smaller (a b r : ℕ) : Type 0 where
  pub first : r ≤ a
  pub second : r ≤ b
  pub one : (r ≡ a) ⊎ (r ≡ b)

-- a dependency in a record, and a rank to fit it to
pub record FitAsked (at old rank : ℕ) (from : List ℤ) : Type 0 where
  pub room : at + old + 1 ≤ length from
  pub old_few : old ≤ 4
  pub rank_few : rank ≤ 4
