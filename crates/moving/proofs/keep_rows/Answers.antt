-- `keep_rows`: the section of rows fits its room, and copied there it is the table.
use native.Mathlib.Omega.{arith}
use Rattle.parts.proofs.Loading.{places}
use Rattle.moving.proofs.Kept.{rows_kept}
use Rattle.moving.proofs.keep_rows.Goals as goal

pub copy_into-requires : goal.copy_into-requires
copy_into-requires c = let b = places c.requires.sound_record in omega arith

pub returns : goal.returns
returns c = rows_kept c.requires.sound_record c.requires.part_size_in_bounds c.copy_into.ensures
