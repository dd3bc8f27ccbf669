-- `get`: the number that was read has a code by its sign.
use native.Mathlib.Omega.{arith}
use lib.IntN.{pos}
use lib.ListN.{get_or}
use mir.Syntax.{w32}
use mir.Val.{SFits}
use borrow.Author.Rules.{rules}
use Rattle.cells.proofs.Signed.{turned_is, natural_is, negative_code, natural_code}
use Rattle.cells.proofs.View.{view_get_or}
use Rattle.cells.proofs.get.Goals as goal

pub returns-then-number-lt0 : goal.returns-then-number-lt0
returns-then-number-lt0 c = let z = get_or c.args.s.now c.args.at (pos 0) in
    let h : SFits w32 z = search rules in
    let e = c.if-number-lt0.true in
    omega (arith, turned_is z h.sfits e, negative_code z h.sfits e, view_get_or c.args.s.now c.args.at)

pub returns : goal.returns
returns c = let z = get_or c.args.s.now c.args.at (pos 0) in
    let h : SFits w32 z = search rules in
    let e = c.if-number-lt0.false in
    omega (arith, natural_is z h.sfits e, natural_code z h.sfits e, view_get_or c.args.s.now c.args.at)
