-- `axes_of`: by the sign of the rank.
use mathlib.Core.Path.{◌≡◌, ap}
use native.Mathlib.Omega.{arith}
use Rattle.cells.specs.View.{sign_of, size_of}
use Rattle.shapes.proofs.Reading.{handed_over, as_natural, as_nothing}
use Rattle.list_calls.proofs.joining.axes_of.Goals as goal

pub returns-in-Some : goal.returns-in-Some
returns-in-Some c =
    let sign : c.sign_of.result ≡ sign_of c.args.rank = handed_over _ c.ranges.rank c.sign_of.ensures.is in
    (as_natural _ sign c.in-Some.is, omega (arith, c.sign_of.ensures.small, ap size_of c.in-Some.is))

pub returns-in-None : goal.returns-in-None
returns-in-None c =
    let sign : c.sign_of.result ≡ sign_of c.args.rank = handed_over _ c.ranges.rank c.sign_of.ensures.is in
    (as_nothing _ sign c.in-None.is, omega arith)
