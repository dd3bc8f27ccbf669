-- The records of a list once they were judged.
use Rattle.std.specs.Prelude.{◌≡◌, true, List, map, ℕ, ℤ}
use Rattle.rules.specs.Layout.{Layout}
use Rattle.rules.specs.Record.{layout_in, sound}
use Rattle.records.specs.Judging.{ReadableRecord}
use Rattle.lists.specs.Places.{standing}

-- a record that was judged: it is sound, and readable
pub record JudgedRecord (s : List ℤ) : Type 0 where
  pub judged : sound s ≡ true
  pub readable : ReadableRecord s

-- the layouts of the records at the first n places
abbrev pub layouts_at : ℕ → List ℕ → List ℤ → List Layout
layouts_at n places s = map layout_in (standing n places s)
