-- `index_of`: by the first reason that holds.
use mathlib.Core.Path.{sym, ◌∙◌}
use Rattle.rules.specs.Positions.{unravel_index}
use Rattle.rules.specs.Refusals.{number_of}
use Rattle.rules.specs.declared.Refusal.TheVariants.{ShapesDisagree}
use Rattle.axes.proofs.Indices.{unravel_length}
use Rattle.judging.proofs.Judged.{judged, told_true, told_false}
use Rattle.lists.proofs.ByValue.{tuple_refused, tuple_given}
use Rattle.shape_calls.proofs.positions.index_of.Goals as goal

pub returns-then-any_zero : goal.returns-then-any_zero
unfolding unravel_index number_of
returns-then-any_zero c = let zero = told_true _ c.any_zero.ensures c.if-any_zero.true in
    tuple_refused ShapesDisagree (search judged)

pub unravel-requires : goal.unravel-requires
unravel-requires c = record {
  judged = c.requires;
  shape_value = told_false _ c.any_zero.ensures c.if-any_zero.false;
}

pub returns : goal.returns
unfolding unravel_index number_of
returns c = let none = told_false _ c.any_zero.ensures c.if-any_zero.false in
    tuple_given _ (c.rank.ensures.0 ∙ sym (unravel_length _ _)) c.unravel.ensures (search judged)
