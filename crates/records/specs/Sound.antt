-- What is known of a record once it was judged.
use Rattle.std.specs.Prelude.{None, Option, Some}
use Rattle.std.specs.Prelude.{◌≡◌, Bool, true, false, List, ℤ}
use Rattle.rules.specs.declared.Head.{Head}
use Rattle.rules.specs.Lists.{if}
use Rattle.rules.specs.Record.{walk, sound, ordered}
use Rattle.records.specs.Judging.{Readable}

-- a record that was walked and judged sound
pub record SoundRecord (h : Head) (s : List ℤ) : Type 0 where
  pub walked : walk s ≡ Some h
  pub judged : sound s ≡ true
  pub readable : Readable h s

-- the head of the record at the front of a slice, if it is sound
unfoldable pub sound_head : List ℤ → Option Head
sound_head s = if (sound s) (walk s) None

-- a head that is answered is that of a readable record
abbrev pub ReadableHead : Option Head → List ℤ → Type 0
ReadableHead (Some h) s = Readable h s
ReadableHead None s = Unit

-- the head that is found, and whether the rows are found to increase
abbrev pub head_found : Option (Head × Bool) → Option Head
head_found (Some (h, increase)) = Some h
head_found None = None

abbrev pub order_found : Option (Head × Bool) → Bool
order_found (Some (h, increase)) = increase
order_found None = false

-- what is found is so
pub record Found (r : Option (Head × Bool)) (s : List ℤ) : Type 0 where
  pub head : head_found r ≡ sound_head s
  pub readable : ReadableHead (head_found r) s
  pub order : order_found r ≡ ordered s
