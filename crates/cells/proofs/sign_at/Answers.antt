-- `sign_at`: the number that was read goes to `sign_of`.
use mathlib.Core.Path.{ap, ◌∙◌}
use lib.IntN.{pos}
use lib.ListN.{get_or}
use mir.Syntax.{w32}
use mir.Val.{SFits}
use borrow.Author.Rules.{rules}
use Rattle.cells.specs.View.{sign_of}
use Rattle.cells.proofs.Signed.{back}
use Rattle.cells.proofs.sign_at.Goals as goal

pub returns-clause-is : goal.returns-clause-is
returns-clause-is c = let z = get_or c.args.s.now c.args.at (pos 0) in
    let x : SFits w32 z = search rules in
    c.sign_of.ensures.is ∙ ap sign_of (back z x.sfits)
