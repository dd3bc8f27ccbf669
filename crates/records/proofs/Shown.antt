-- What a sound record shows of its layout. Assumes nothing.
use mathlib.Core.Path.{◌≡◌, refl, sym, ap}
use mathlib.Core.List.{List}
use Prim.Native.Nat.{◌+◌}
use native.Mathlib.Omega.{arith}
use lib.IntN.{ℤ}
use lib.ListN.{length, get_or}
use Rattle.rules.specs.declared.Head.{Head}
use Rattle.rules.specs.Buffers.{part}
use Rattle.rules.specs.Layout.{Layout, rank, width}
use Rattle.rules.specs.Soundness.{DepsLow}
use Rattle.rules.specs.Record.{layout_in}
use Rattle.rules.proofs.Buffers.{length_part}
use Rattle.cells.specs.View.{view}
use Rattle.cells.proofs.View.{view_length}
use Rattle.tables.specs.Rows.{row_at}
use Rattle.records.specs.Sound.{SoundRecord}
use Rattle.records.proofs.Layouts.{axes, has_states, has_inputs}
use Rattle.records.proofs.SoundRecords.{lies, layout_shown}

module _ {h : Head} {s : List ℤ} (r : SoundRecord h s) where
  -- its extents stand in the slice
  pub shape_size : length (part 3 h.rank (view s)) ≡ h.rank
  shape_size = let b = lies r in length_part 3 h.rank (view s) (rw view_length (omega arith))

  -- they are those of its layout
  pub record_shape : row_at 3 h.rank s ≡ (layout_in s).shape
  record_shape = sym (ap (λ (l : Layout). l.shape) (layout_shown r))

  -- its rank is the layout's
  pub rank_shown : rank (layout_in s) ≡ h.rank
  rank_shown = rw (layout_shown r) shape_size

  -- D and the axes of the rows are the rank together
  pub dense_shown : (layout_in s).dense + h.width ≡ h.rank
  dense_shown = rw (layout_shown r) (axes r.readable)

  -- its rows are as wide as the layout's
  pub width_shown : width (layout_in s) ≡ h.width
  width_shown = omega (arith, rank_shown, dense_shown)

  -- its kind is the layout's
  pub kind_shown : (layout_in s).kind ≡ get_or (view s) 0 0
  kind_shown = rw (layout_shown r) refl

  -- the numbers of the layout's dependencies are below 2 ^ 31
  pub deps_low : DepsLow (layout_in s)
  deps_low = rw (layout_shown r) (record { states_low = (has_states r.readable).low; inputs_low = (has_inputs r.readable).low })
