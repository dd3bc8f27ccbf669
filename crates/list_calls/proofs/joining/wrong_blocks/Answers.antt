-- `wrong_blocks`: by the sign of the rank.
use mathlib.Core.Path.{◌≡◌}
use Rattle.rules.specs.Lists.{all}
use Rattle.rules.specs.Record.{natural}
use Rattle.rules.specs.Concatenate.{good_block}
use Rattle.lists.specs.Starts.{blocks_at}
use Rattle.cells.specs.View.{sign_of}
use Rattle.shapes.proofs.Reading.{handed_over, as_natural, sign_natural, sign_negative}
use Rattle.list_calls.proofs.Concatenations.{rank_wrong, blocks_wrong}
use Rattle.list_calls.proofs.joining.wrong_blocks.Goals as goal

pub returns-in-Some : goal.returns-in-Some
returns-in-Some c =
    let sign : c.sign_of.result ≡ sign_of c.args.rank = handed_over _ c.ranges.rank c.sign_of.ensures.is in
    blocks_wrong c.args.rank _ _ _ _ (sign_natural _ sign c.in-Some.is) (as_natural _ sign c.in-Some.is) c.all_pass.ensures

pub returns-in-None : goal.returns-in-None
returns-in-None c =
    let sign : c.sign_of.result ≡ sign_of c.args.rank = handed_over _ c.ranges.rank c.sign_of.ensures.is in
    let a = c.args in
    rank_wrong a.rank (all good_block (blocks_at (natural a.rank) a.places.now.count a.places.now.at a.list.now)) (sign_negative _ sign c.in-None.is)
