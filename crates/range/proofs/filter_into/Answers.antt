-- `filter_into`: the axis, the target, and the entries of the range for its states and its inputs.
use Rattle.rules.specs.Record.{layout_in}
use Rattle.rules.proofs.HandedOn.{handed_on, was_some, was_none}
use Rattle.range.specs.Cutting.{CutAlong}
use Rattle.range.proofs.filter_into.Goals.{In_ok-axis}
use native.Mathlib.Omega.{arith}
use Rattle.range.proofs.Filtering.{cannot_says, ask_states, ask_inputs, states_break, inputs_break, filtered_says}
use Rattle.range.proofs.filter_into.Goals as goal

pub returns-in_err-axis : goal.returns-in_err-axis
returns-in_err-axis c =
    let none = was_none _ _ c.ok_or.ensures.value c.in_err-axis.was in
    rw (handed_on c.from_residual.result c.from_residual.ensures.1, none.1)
    (cannot_says c.requires.sound_record.0 c.requires.sound_record.1 _ _ (rw none.0 at c.axis_to_cut.ensures))

-- the source is cut along the axis that was found
along : (c : In_ok-axis) → CutAlong c.args.head.rank (layout_in c.args.source.now) c.in_ok-axis.axis
along c = rw (was_some _ _ c.ok_or.ensures.value c.in_ok-axis.was) at c.axis_to_cut.ensures

pub cut_deps-requires : goal.cut_deps-requires
cut_deps-requires c =
    ask_states c.requires.sound_record.0 c.requires.sound_record.1 _ _ (along (goal.at.cut_deps-requires c).In_ok-axis) c.load.ensures.holds.inside

pub returns-then-not-cut_deps : goal.returns-then-not-cut_deps
returns-then-not-cut_deps c =
    states_break c.requires.sound_record.0 c.requires.sound_record.1 _ _ (along (goal.at.returns-then-not-cut_deps c).In_ok-axis) c.load.ensures c.cut_deps.ensures c.if-not-cut_deps.true-raw

pub cut_deps-requires-2 : goal.cut_deps-requires-2
cut_deps-requires-2 c =
    ask_inputs c.requires.sound_record.0 c.requires.sound_record.1 _ _ (along (goal.at.cut_deps-requires-2 c).In_ok-axis) (omega (arith, c.load.ensures.holds.inside, c.cut_deps.ensures.made.only.size))

pub returns-then-not-cut_deps-2 : goal.returns-then-not-cut_deps-2
returns-then-not-cut_deps-2 c =
    inputs_break c.requires.sound_record.0 c.requires.sound_record.1 _ _ (along (goal.at.returns-then-not-cut_deps-2 c).In_ok-axis) c.load.ensures c.cut_deps.ensures c.if-not-cut_deps.false-raw c.cut_deps-2.ensures c.if-not-cut_deps-2.true-raw

pub returns : goal.returns
returns c =
    filtered_says c.requires.sound_record.0 c.requires.sound_record.1 _ _ (along (goal.at.returns c).In_ok-axis) c.load.ensures c.cut_deps.ensures c.if-not-cut_deps.false-raw c.cut_deps-2.ensures c.if-not-cut_deps-2.false-raw
