-- `over_rank`: by the first reason that holds.
use Rattle.cells.specs.View.{sign_of}
use Rattle.judging.proofs.Results.{rank_natural, rank_negative}
use Rattle.shapes.proofs.Reading.{handed_over}
use mathlib.Core.Path.{◌≡◌}
use Rattle.judging.proofs.over_rank.Goals as goal

pub returns-in-Some : goal.returns-in-Some
returns-in-Some c =
    let sign : c.sign_of.result ≡ sign_of c.args.rank = handed_over _ c.ranges.rank c.sign_of.ensures.is in
    rank_natural _ sign c.in-Some.is

pub returns-in-None : goal.returns-in-None
returns-in-None c =
    let sign : c.sign_of.result ≡ sign_of c.args.rank = handed_over _ c.ranges.rank c.sign_of.ensures.is in
    rank_negative _ sign c.in-None.is
