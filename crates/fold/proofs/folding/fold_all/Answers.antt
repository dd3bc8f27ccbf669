-- `fold_all`: all but the first k layouts are folded.
use Rattle.rules.proofs.HandedOn.{handed_on}
use mathlib.Core.Path.{refl, ◌∙◌}
use native.Mathlib.Omega.{arith}
use Rattle.fold.proofs.Steps.{bring_there, fold_start, fold_stop, fold_turn, fold_done}
use Rattle.fold.proofs.folding.fold_all.Goals as goal

pub bring_left-requires : goal.bring_left-requires
bring_left-requires c = record {
  at_in_bounds = bring_there c.requires.all_bringable (omega (arith, c.requires.all_bringable.some));
  window_size_in_bounds = c.requires.window_size_in_bounds;
}

pub loop-k-init : goal.loop-k-init
loop-k-init c = fold_start c.requires.all_bringable c.bring_left.ensures refl

pub fold_onto-requires : goal.fold_onto-requires
fold_onto-requires c = let inv = c.loop-k.invariant in record {
  at_in_bounds = bring_there inv.asked (omega (arith, inv.upto));
  left_ready = inv.ready;
}

pub returns-in_err-fold_onto : goal.returns-in_err-fold_onto
returns-in_err-fold_onto c =
    rw (handed_on c.from_residual.result c.from_residual.ensures.1)
    (fold_stop c.loop-k.invariant c.loop-k-test.true c.fold_onto.ensures c.in_err-fold_onto.was)

pub loop-k-preserved : goal.loop-k-preserved
loop-k-preserved c = fold_turn c.loop-k.invariant c.loop-k-test.true c.fold_onto.ensures c.in_ok-fold_onto.was (c.window-in-loop-k-1.given ∙ c.loop-k.invariant.same_size)

pub returns : goal.returns
returns c = fold_done c.loop-k.invariant (omega (arith, c.loop-k-test.false))
