-- Things end to end in a slice: records, shapes or blocks.
use Rattle.std.specs.Prelude.{◌≡◌, List, ℕ, ◌≤◌, ℤ, length, drop}

-- behind the thing that begins at a place stands what stands from r on
pub record Behind (behind : List ℤ → List ℤ) (at : ℕ) (s : List ℤ) (r : ℕ) : Type 0 where
  pub inside : r ≤ length s
  pub rest : drop r s ≡ behind (drop at s)
