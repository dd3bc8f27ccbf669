-- `clear`: the part that was lent came back as zeros.
use mathlib.Core.Path.{◌≡◌}
use mathlib.Core.List.{List, ◌++◌}
use Prim.Native.Nat.{ℕ, ◌≤◌}
use native.Mathlib.Omega.{arith}
use lib.IntN.{ℤ, pos}
use lib.ListN.{length, take, drop, replicate}
use lib.Seq.{length-take-le}
use Rattle.rules.specs.Buffers.{over, zeros}
use Rattle.rules.proofs.Buffers.{length_zeros}
use Rattle.cells.proofs.clear.Goals as goal

-- s with zeros in place of its first m numbers, which are n
zeros_first : (m n : ℕ) (s front : List ℤ) → m ≡ n → n ≤ length s → front ≡ replicate (length (take m s)) (pos 0) → front ++ drop m s ≡ over (zeros n) s
unfolding over
zeros_first m n s front all fits is = rw (is, all, length-take-le n s fits, length_zeros)

pub returns : goal.returns
returns c = zeros_first _ c.args.n c.args.s.now c.fill.new.self (omega arith) c.requires (c.fill.ensures.after (λ y e. e))
