-- `same`: two numbers are one where their codes are.
use lib.IntN.{pos}
use lib.ListN.{get_or}
use mir.Syntax.{w32}
use mir.Val.{SFits}
use borrow.Author.Rules.{rules}
use Rattle.cells.proofs.Signed.{view_equal}
use Rattle.cells.proofs.same.Goals as goal

pub returns : goal.returns
returns c = let a = c.args in
    let x : SFits w32 (get_or a.s.now a.i (pos 0)) = search rules in
    let y : SFits w32 (get_or a.t.now a.j (pos 0)) = search rules in
    view_equal a.s.now a.t.now a.i a.j x.sfits y.sfits
