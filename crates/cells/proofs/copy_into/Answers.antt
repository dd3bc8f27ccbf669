-- `copy_into`: the part that was lent came back as src.
use Prim.Native.Nat.{◌+◌, ◌-◌}
use native.Mathlib.Omega.{arith}
use lib.ListN.{length}
use Rattle.rules.proofs.Buffers.{lent}
use Rattle.cells.proofs.copy_into.Goals as goal

pub returns : goal.returns
returns c = let a = c.args in
    rw c.copy_from_slice.ensures.after (lent a.at (a.at + length a.src.now - a.at) a.src.now a.dst.now (omega arith))
