-- `below`: a natural number is below another, or below a negative one's code.
use mathlib.Core.Path.{◌∙◌}
use lib.IntN.{pos}
use lib.ListN.{get_or}
use mir.Syntax.{w32}
use mir.Val.{SFits}
use borrow.Author.Rules.{rules}
use Rattle.cells.proofs.Signed.{view_less, view_else}
use Rattle.cells.proofs.below.Goals as goal

pub returns-then-x-y : goal.returns-then-x-y
returns-then-x-y c = let a = c.args in
    let x : SFits w32 (get_or a.s.now a.i (pos 0)) = search rules in
    let y : SFits w32 (get_or a.t.now a.j (pos 0)) = search rules in
    c.if-x-y.true ∙ view_less a.s.now a.t.now a.i a.j x.sfits y.sfits c.requires.i_bound c.if-x-y.true

pub returns-else-x-y : goal.returns-else-x-y
returns-else-x-y c = let a = c.args in
    let x : SFits w32 (get_or a.s.now a.i (pos 0)) = search rules in
    let y : SFits w32 (get_or a.t.now a.j (pos 0)) = search rules in
    view_else a.s.now a.t.now a.i a.j x.sfits y.sfits c.requires.i_bound c.if-x-y.false
