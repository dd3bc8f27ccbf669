-- The extents of a record, cut to a rank or filled up with ones: `fitted_extents`. Assumes nothing.
use mathlib.Core.Path.{◌≡◌, refl}
use mathlib.Core.List.{List}
use Prim.Native.Nat.{ℕ, ◌+◌, ◌-◌, ◌≤◌}
use native.Mathlib.Omega.{arith}
use lib.ListN.{length, take, drop, replicate}
use lib.IntN.{ℤ, pos}
use Rattle.rules.specs.Lists.{fit_to}
use Rattle.rules.specs.Buffers.{part, over}
use Rattle.rules.proofs.Buffers.{length_part}
use Rattle.cells.specs.View.{view}
use Rattle.cells.proofs.View.{view_over, view_part}
use Rattle.tables.specs.Rows.{row_at}
use Rattle.tables.proofs.Rows.{row_length, front_row, lent_row}
use Rattle.moving.specs.Fitting.{Smaller}
use Rattle.moving.proofs.Fitting.{fitted_front}
use Rattle.stretch.specs.Spread.{extents_in}

-- four ones
ones : view (replicate 4 (pos 1)) ≡ replicate 4 1
unfolding view
ones = refl

-- the extents of a record, copied onto ones
pub extents_fitted : {old rank n : ℕ} (s : List ℤ) {out : List ℤ} → (3 + old ≤ length s) × (old ≤ 4) × (rank ≤ 4) → Smaller old rank n →
    out ≡ over (take (3 + n - 3) (drop 3 s)) (replicate 4 (pos 1)) → row_at 0 rank out ≡ fit_to rank 1 (extents_in old s)
unfolding part
extents_fitted {old} {rank} {n} s a m e =
    let room : 3 + n ≤ length s = omega (arith, a.0, m.first) in
    rw (e, lent_row 3 n s, view_over, view_part, length_part 3 n s room, ones, front_row 3 n old s m.first)
    (fitted_front 1 (extents_in old s) rank n 4 (rw (row_length 3 old s a.0) m) a.2)
