-- `low`: a number whose code is low is that code.
use native.Mathlib.Omega.{arith}
use lib.IntN.{pos}
use lib.ListN.{get_or}
use mir.Syntax.{w32}
use mir.Val.{SFits}
use borrow.Author.Rules.{rules}
use Rattle.cells.proofs.Signed.{low_held, natural_casts, natural_is, natural_code}
use Rattle.cells.proofs.View.{view_get_or}
use Rattle.cells.proofs.low.Goals as goal

pub overflow_cast-result : goal.overflow_cast-result
overflow_cast-result c = let z = get_or c.args.s.now c.args.at (pos 0) in
    let h : SFits w32 z = search rules in
    natural_casts z h.sfits (low_held z h.sfits (rw view_get_or at c.requires.at_bound))

pub returns : goal.returns
returns c = let z = get_or c.args.s.now c.args.at (pos 0) in
    let h : SFits w32 z = search rules in
    let e = low_held z h.sfits (rw view_get_or at c.requires.at_bound) in
    omega (arith, natural_is z h.sfits e, natural_code z h.sfits e, view_get_or c.args.s.now c.args.at)
