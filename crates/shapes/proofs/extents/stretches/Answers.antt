-- `stretches`: the axes before this one stretch.
use borrow.Author.Rules.{rules}
use borrow.Author.Tests.{not-false}
use Rattle.shapes.proofs.Stretching.{laws, stretch_turn}
use Rattle.shapes.proofs.extents.stretches.Goals as goal

pub returns-then-axes-rank : goal.returns-then-axes-rank
returns-then-axes-rank c = search (rules, laws)

pub loop-axis-init : goal.loop-axis-init
loop-axis-init c = search (rules, laws)

pub returns-then-not-axis_stretches : goal.returns-then-not-axis_stretches
returns-then-not-axis_stretches c = search (rules, laws)

pub loop-axis-preserved : goal.loop-axis-preserved
loop-axis-preserved c = let extents = c in
    let turn = extents in
    let ranks = turn in
    stretch_turn _ _ turn.loop-axis.invariant ranks.rank-axes.ensures.0 turn.loop-axis-test.true
    extents.extent.ensures.0 extents.extent-in-loop-axis.ensures.0 c.axis_stretches.ensures (not-false _ c.if-not-axis_stretches.false-raw)

pub returns : goal.returns
returns c = search (rules, laws)
