-- `store_table`: the count and the rows stand one behind the other already.
use native.Mathlib.Omega.{arith}
use lib.ListN.{length-take, length-drop}
use Rattle.parts.proofs.Packing.{table_room, table_stored}
use Rattle.parts.proofs.store_table.Goals as goal

pub overflow_mul-size : goal.overflow_mul-size
overflow_mul-size c = omega (arith, table_room c.requires.fits c.get-n.ensures.0)

pub overflow_add-size : goal.overflow_add-size
overflow_add-size c = omega (arith, table_room c.requires.fits c.get-n.ensures.0)

pub overflow_add-end : goal.overflow_add-end
overflow_add-end c = omega (arith, table_room c.requires.fits c.get-n.ensures.0)

pub slice_bounds-copy_into-end : goal.slice_bounds-copy_into-end
slice_bounds-copy_into-end c = omega (arith, table_room c.requires.fits c.get-n.ensures.0)

pub copy_into-requires : goal.copy_into-requires
copy_into-requires c = simp (length-take, length-drop) (omega (arith, table_room c.requires.fits c.get-n.ensures.0))

pub overflow_add-result : goal.overflow_add-result
overflow_add-result c = omega (arith, table_room c.requires.fits c.get-n.ensures.0)

pub returns : goal.returns
returns c = table_stored c.requires.fits c.get-n.ensures.0 c.copy_into.ensures
