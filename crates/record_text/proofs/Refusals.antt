-- The line of a refusal. Assumes nothing.
use mathlib.Core.Path.{◌≡◌}
use mathlib.Core.List.{[], ◌∷◌}
use Prim.Native.Nat.{◌^◌, ◌<◌}
use lib.IntN.{ℤ, pos}
use lib.Signed.{mag}
use Rattle.rules.specs.declared.Refusal.{Refusal}
use Rattle.rules.specs.Refusals.{number_of}
use Rattle.cells.proofs.Signed.{held, back}
use Rattle.text.specs.Written.{line_text}
use Rattle.record_text.specs.Lines.{refused_text}

-- its number is written as it is held in a slice
pub refused_line : (x : Refusal) (z : ℤ) → z ≡ pos (number_of x) → mag z < 2 ^ 31 →
    114 ∷ 101 ∷ 102 ∷ 117 ∷ 115 ∷ 101 ∷ 100 ∷ 32 ∷ line_text (held z ∷ []) ≡ refused_text (number_of x)
unfolding refused_text
refused_line x z e h = rw (back z h, e)
