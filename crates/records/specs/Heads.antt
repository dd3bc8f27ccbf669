-- What a walked record says of its slice.
use Rattle.std.specs.Prelude.{◌≡◌, List, ◌+◌, ℤ, pos, ◌-ℤ◌, get_or}
use Rattle.rules.specs.declared.Head.{Head}
use Rattle.records.specs.Sections.{Laid}

-- h is the head of the record at the front of s: its numbers stand there, and its sections lie one behind the other
pub record HeadOf (h : Head) (s : List ℤ) : Type 0 where
  pub kind : h.kind ≡ get_or s 0 (pos 0)
  pub dense : h.dense ≡ get_or s 1 (pos 0)
  pub rank : get_or s 2 (pos 0) ≡ pos h.rank
  pub width : pos h.rank -ℤ h.dense ≡ pos h.width
  pub rows : Laid (h.rank + 3) h.width s h.rows
  pub states : Laid h.rows.next (h.rank + 1) s h.states
  pub inputs : Laid h.states.next (h.rank + 1) s h.inputs
