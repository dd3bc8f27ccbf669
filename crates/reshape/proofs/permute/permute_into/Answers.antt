-- `permute_into`: one reason of 8 after the other, a copy, or the axes moved.
use Rattle.rules.proofs.HandedOn.{handed_on, was_some, was_none}
use Rattle.reshape.specs.Permuting.{MovesAre}
use Rattle.reshape.proofs.permute.permute_into.Goals.{In_ok-moves}
use native.Mathlib.Omega.{arith}
use Rattle.records.proofs.SoundRecords.{lies}
use Rattle.lookups.proofs.SoundRecords.{lent_judged}
use Rattle.reshape.proofs.Permuting.{too_many, too_few, unnamed_says, empty_says, ask_move, permutes}
use Rattle.reshape.proofs.permute.permute_into.Goals as goal

pub returns-then-head-count : goal.returns-then-head-count
returns-then-head-count c = too_many c.requires.sound_record _ c.if-head-count.true

pub min_rank-requires : goal.min_rank-requires
min_rank-requires c = lent_judged c.requires.sound_record

pub returns-then-count-min_rank : goal.returns-then-count-min_rank
returns-then-count-min_rank c = too_few c.requires.sound_record _ c.if-head-count.false c.min_rank.ensures c.if-count-min_rank.true

pub moves_of-requires : goal.moves_of-requires
moves_of-requires c = omega (arith, c.if-head-count.false, (lies c.requires.sound_record).rank_few)

pub returns-in_err-moves : goal.returns-in_err-moves
returns-in_err-moves c =
    let none = was_none _ _ c.ok_or.ensures.value c.in_err-moves.was in
    rw (handed_on c.from_residual.result c.from_residual.ensures.1, none.1)
    (unnamed_says c.requires.sound_record _ c.if-head-count.false c.min_rank.ensures c.if-count-min_rank.false (rw none.0 at c.moves_of.ensures))

-- the moves that were found
moves : (c : In_ok-moves) → MovesAre c.args.entries.now c.in_ok-moves.moves.largest c.in_ok-moves.moves.places
moves c = rw (was_some _ _ c.ok_or.ensures.value c.in_ok-moves.was) at c.moves_of.ensures

pub returns-then-count-eq0 : goal.returns-then-count-eq0
returns-then-count-eq0 c = empty_says c.requires.sound_record _ c.if-head-count.false c.min_rank.ensures c.if-count-min_rank.false (moves (goal.at.returns-then-count-eq0 c).In_ok-moves) c.if-count-eq0.true c.load.ensures

pub move_axes-requires : goal.move_axes-requires
move_axes-requires c = ask_move c.requires.sound_record _ c.if-head-count.false c.min_rank.ensures c.if-count-min_rank.false (moves (goal.at.move_axes-requires c).In_ok-moves) c.requires.part_size_in_bounds

pub returns : goal.returns
returns c = c.move_axes.ensures _ (permutes c.requires.sound_record _ c.if-head-count.false c.min_rank.ensures c.if-count-min_rank.false (moves (goal.at.returns c).In_ok-moves) c.if-count-eq0.false)
