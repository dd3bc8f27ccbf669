-- `finish`: by what the step says; the part that it made is lent to `store`.
use native.Mathlib.Omega.{arith}
use Rattle.parts.specs.Parts.{Holds}
use Rattle.parts.proofs.Lent.{lent_part_holds, lent_part_layout}
use Rattle.parts.proofs.Ending.{finished_done, finished_refused}
use Rattle.parts.proofs.finish.Goals as goal

pub overflow_add-end : goal.overflow_add-end
overflow_add-end c =
    let holds : Holds c.args.at c.args.work.now = c.requires.holds c.in-Ok.is in
    omega (arith, holds.inside)

pub offset_bounds-work-at : goal.offset_bounds-work-at
offset_bounds-work-at c =
    let holds : Holds c.args.at c.args.work.now = c.requires.holds c.in-Ok.is in
    omega (arith, holds.inside)

pub slice_bounds-store-end : goal.slice_bounds-store-end
slice_bounds-store-end c =
    let holds : Holds c.args.at c.args.work.now = c.requires.holds c.in-Ok.is in
    holds.inside

pub store-n-requires : goal.store-n-requires
store-n-requires c =
    let holds : Holds c.args.at c.args.work.now = c.requires.holds c.in-Ok.is in record {
      holds = lent_part_holds holds;
      part_size_in_bounds = omega arith;
    }

pub returns-in-Ok : goal.returns-in-Ok
returns-in-Ok c =
    let holds : Holds c.args.at c.args.work.now = c.requires.holds c.in-Ok.is in
    finished_done c.clear.ensures c.in-Ok.is (lent_part_layout holds) c.store-n.ensures

pub returns-in-Err : goal.returns-in-Err
returns-in-Err c = finished_refused c.refuse.ensures.1 c.in-Err.is c.refuse.ensures.0
