-- `answer_list`: leftovers, a union that was written, or one that was refused.
use mathlib.Core.Path.{ap, ◌∙◌}
use native.Mathlib.Omega.{arith}
use lib.ListN.{length-take}
use Rattle.rules.specs.Refusals.{number_of}
use Rattle.record_text.specs.Lines.{verdict_text}
use Rattle.record_text.proofs.Fronts.{front_is}
use Rattle.union_records.proofs.Verdicts.{leftover, no_leftover, union_held, union_why, held_sound, held_text}
use Rattle.union_records.proofs.answer_list.Goals as goal

pub returns-then-second-list : goal.returns-then-second-list
unfolding number_of
returns-then-second-list c = rw (leftover c.args.list.now c.behind_record-first.result c.behind_record-second.result c.behind_record-first.ensures.rest c.behind_record-second.ensures.rest c.if-second-list.true) c.write_refusal.ensures

pub slice_bounds-write_layout-end : goal.slice_bounds-write_layout-end
slice_bounds-write_layout-end c = let h = union_held _ _ _ _ c.union.ensures c.in-Ok.is in
    omega arith

pub slice_bounds-write_layout-end-in-Ok : goal.slice_bounds-write_layout-end-in-Ok
slice_bounds-write_layout-end-in-Ok c = let h = union_held _ _ _ _ c.union.ensures c.in-Ok.is in
    simp length-take (omega arith)

pub write_layout-requires : goal.write_layout-requires
write_layout-requires c = let h = union_held _ _ _ _ c.union.ensures c.in-Ok.is in
    (held_sound h, omega arith)

pub returns-in-Ok : goal.returns-in-Ok
returns-in-Ok c = let asked = no_leftover c.args.list.now c.behind_record-first.result c.behind_record-second.result c.behind_record-first.ensures.rest c.behind_record-second.ensures.rest c.if-second-list.false c.requires.0 c.requires.1 in
    let h = union_held _ _ _ _ c.union.ensures c.in-Ok.is in
    front_is (held_text h ∙ ap verdict_text asked) c.write_layout.ensures

pub returns-in-Err : goal.returns-in-Err
returns-in-Err c = let asked = no_leftover c.args.list.now c.behind_record-first.result c.behind_record-second.result c.behind_record-first.ensures.rest c.behind_record-second.ensures.rest c.if-second-list.false c.requires.0 c.requires.1 in
    let why = union_why _ _ _ _ c.union.ensures c.in-Err.is in
    front_is (why ∙ ap verdict_text asked) c.write_refusal-in-Err.ensures
