-- `walkable`: by the sign of the rank.
use mathlib.Core.Path.{◌≡◌}
use Rattle.cells.specs.View.{sign_of}
use Rattle.shapes.proofs.Reading.{handed_over, sign_natural, sign_negative}
use Rattle.list_calls.proofs.Concatenations.{walk_all, walk_none}
use Rattle.list_calls.proofs.joining.walkable.Goals as goal

pub returns-in-Some : goal.returns-in-Some
returns-in-Some c =
    let sign : c.sign_of.result ≡ sign_of c.args.rank = handed_over _ c.ranges.rank c.sign_of.ensures.is in
    walk_all c.args.rank _ (sign_natural _ sign c.in-Some.is)

pub returns-in-None : goal.returns-in-None
returns-in-None c =
    let sign : c.sign_of.result ≡ sign_of c.args.rank = handed_over _ c.ranges.rank c.sign_of.ensures.is in
    walk_none c.args.rank _ (sign_negative _ sign c.in-None.is)
