-- Where the entries of a section lie.
use Rattle.std.specs.Prelude.{None, Option, Some}
use Rattle.std.specs.Prelude.{◌≡◌, List, ℕ, ◌+◌, ◌*◌, ◌^◌, ◌<◌, ◌≤◌, ℤ, pos, length, get_or}
use Rattle.rules.specs.declared.Entries.{Entries}

-- the entries of w numbers each, whose count stands at i, lie in the slice
pub record Laid (i w : ℕ) (s : List ℤ) (e : Entries) : Type 0 where
  pub at : i < length s
  pub count : get_or s i (pos 0) ≡ pos e.count
  pub first : e.first ≡ i + 1
  pub next : e.next ≡ e.first + e.count * w
  pub room : e.next ≤ length s

-- the same of a section that is whole, and that its count is a 32-bit number
abbrev pub SectionIn : ℕ → ℕ → List ℤ → Option Entries → Type 0
SectionIn i w s (Some e) = Laid i w s e × (e.count < 2 ^ 31)
SectionIn i w s None = Unit
