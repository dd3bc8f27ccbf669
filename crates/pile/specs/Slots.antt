-- Where the slots of a pile begin.
use Rattle.std.specs.Prelude.{None, Option, Some}
use Rattle.std.specs.Prelude.{◌≡◌, true, false, ℕ, ◌+◌, ◌*◌, ◌/◌, ◌≤◌, ℤ}
use Rattle.rules.specs.Limits.{result_size}
use Rattle.rules.specs.Record.{natural}
use Rattle.rules.specs.Pile.{are_two_places}

-- the slots that begin at a and at b lie in a pile of so many numbers
pub record SlotsIn (a b size : ℕ) : Type 0 where
  pub first_in : a + result_size ≤ size
  pub second_in : b + result_size ≤ size

-- two different places of a pile, whose slots begin at a and at b
pub record TwoSlots (first second : ℤ) (size a b : ℕ) : Type 0 where
  pub places : are_two_places first second (size / result_size) ≡ true
  pub first_at : a ≡ natural first * result_size
  pub second_at : b ≡ natural second * result_size
  pub inside : SlotsIn a b size

abbrev pub SlotsAre : ℤ → ℤ → ℕ → (Option (ℕ × ℕ)) → Type 0
SlotsAre first second size (Some (a, b)) = TwoSlots first second size a b
SlotsAre first second size None = are_two_places first second (size / result_size) ≡ false
