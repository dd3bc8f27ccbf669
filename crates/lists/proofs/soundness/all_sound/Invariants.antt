-- `all_sound`: all before this one are sound.
use Prim.Native.Nat.{◌-◌}
use Rattle.lists.proofs.Sounding.{SoundTo}
use Rattle.lists.proofs.soundness.all_sound.Given as goal

abbrev pub invariant-loop-i : goal.invariant-loop-i
invariant-loop-i l = SoundTo l.places.count l.places.at l.s l.i

abbrev pub decreases-loop-i : goal.decreases-loop-i
decreases-loop-i l = l.places.count - l.i
