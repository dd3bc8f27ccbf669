-- `load`: each section fits its room, and the four writes together make the part.
use native.Mathlib.Omega.{arith}
use Rattle.parts.proofs.Loading.{places, is_loaded}
use Rattle.parts.proofs.load.Goals as goal

pub overflow_add-rows : goal.overflow_add-rows
overflow_add-rows c = let b = places c.requires.sound_record in omega arith

pub load_part-requires : goal.load_part-requires
load_part-requires c = let b = places c.requires.sound_record in
    (omega arith, omega arith, omega arith)

pub load_part-requires-2 : goal.load_part-requires-2
load_part-requires-2 c = let b = places c.requires.sound_record in
    (omega arith, omega arith, omega arith)

pub load_part-requires-3 : goal.load_part-requires-3
load_part-requires-3 c = let b = places c.requires.sound_record in
    (omega arith, omega arith, omega arith)

pub load_part-requires-4 : goal.load_part-requires-4
load_part-requires-4 c = let b = places c.requires.sound_record in
    (omega arith, omega arith, omega arith)

pub returns : goal.returns
returns c = is_loaded c.requires.sound_record _ c.requires.part_size_in_bounds
    c.load_part.ensures c.load_part-2.ensures c.load_part-3.ensures c.load_part-4.ensures
