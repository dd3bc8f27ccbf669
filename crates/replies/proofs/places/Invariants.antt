-- `places`: what is left of the number, and how many of its digits are gone.
use Rattle.std.proofs.Common.{◌+◌, ◌≡◌, length, decimal}
use Rattle.replies.proofs.places.Given as goal

abbrev pub invariant-loop-rest : goal.invariant-loop-rest
invariant-loop-rest l = l.count + length (decimal l.rest) ≡ length (decimal l.n) + 1

abbrev pub decreases-loop-rest : goal.decreases-loop-rest
decreases-loop-rest l = l.rest
