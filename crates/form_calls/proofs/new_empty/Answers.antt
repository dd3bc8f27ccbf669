-- `new_empty`: by the first reason that holds.
use Rattle.std.specs.Prelude.{Some}
use Prim.Native.Nat.{ℕ}
use Rattle.cells.specs.View.{sign_of}
use Rattle.judging.proofs.Judged.{judged, told_true, told_false}
use Rattle.judging.proofs.Results.{ends_refused, ends_stepped, results}
use Rattle.judging.proofs.Results.{rank_few}
use Rattle.rules.specs.Arguments.{over_rank}
use Rattle.rules.specs.CountsAndForms.{new_empty, new_empty_call}
use Rattle.rules.specs.Layout.{Layout, encode}
use Rattle.rules.specs.Refusals.{Verdict, given, number_of}
use Rattle.rules.specs.declared.Refusal.TheVariants.{OverCount, ShortBuffer, WrongArgument}
use Rattle.shapes.proofs.Reading.{handed_over, as_natural, sign_natural, sign_negative}
use borrow.Author.Rules.{rules}
use lib.ListN.{length}
use mathlib.Core.Bool.{false}
use mathlib.Core.Path.{◌≡◌, ap, ◌∙◌}
use mir.Syntax.{w32}
use mir.ValLaws.{to_z-of_z}
use Rattle.rules.proofs.HandedOn.{handed_on, was_some, was_none}
use Rattle.form_calls.proofs.new_empty.Goals.{After-over_rank, Else-over_rank, After-sign_of, In_ok-axes}
use Rattle.form_calls.proofs.new_empty.Goals as goal

-- whether the rank is over its limit is told of the number that was handed over
over : (c : After-over_rank) → c.over_rank.result ≡ over_rank c.args.rank
over c = c.over_rank.ensures ∙ ap over_rank (to_z-of_z w32 _ c.ranges.rank)

few : (c : Else-over_rank) → over_rank c.args.rank ≡ false
few c = told_false (over_rank c.args.rank) (c.over_rank.ensures ∙ ap over_rank (to_z-of_z w32 _ c.ranges.rank)) c.if-over_rank.false

pub returns-then-over_rank : goal.returns-then-over_rank
unfolding new_empty_call number_of
returns-then-over_rank c =
    let call : Verdict Layout = new_empty_call c.args.rank (length c.args.res.now) in
    let many = told_true (over_rank c.args.rank) (over (goal.at.returns-then-over_rank c).After-over_rank) c.if-over_rank.true in
    ends_refused encode call OverCount (search (judged, results))

pub returns-then-res-lt-PART : goal.returns-then-res-lt-PART
unfolding new_empty_call number_of
returns-then-res-lt-PART c =
    let call : Verdict Layout = new_empty_call c.args.rank (length c.args.res.now) in
    let small = few (goal.at.returns-then-res-lt-PART c).Else-over_rank in
    ends_refused encode call ShortBuffer (search (judged, results))

-- the rank is read by its sign
sign : (c : After-sign_of) → c.sign_of.result ≡ sign_of c.args.rank
sign c = handed_over _ c.ranges.rank c.sign_of.ensures.is

pub returns-in_err-axes : goal.returns-in_err-axes
unfolding new_empty_call number_of
returns-in_err-axes c =
    let call : Verdict Layout = new_empty_call c.args.rank (length c.args.res.now) in
    let small = few (goal.at.returns-in_err-axes c).Else-over_rank in
    let none = was_none _ _ c.ok_or.ensures.value c.in_err-axes.was in
    let negative = sign_negative _ (sign (goal.at.returns-in_err-axes c).After-sign_of) none.0 in
    rw (handed_on c.from_residual.result c.from_residual.ensures.1, none.1)
    (ends_refused encode call WrongArgument (search (judged, results)))

axes : (c : In_ok-axes) → c.sign_of.result ≡ Some c.in_ok-axes.axes
axes c = was_some _ _ c.ok_or.ensures.value c.in_ok-axes.was

pub new_empty-requires : goal.new_empty-requires
new_empty-requires c = record {
  rank_bound = rank_few _ (sign (goal.at.new_empty-requires c).After-sign_of) (axes (goal.at.new_empty-requires c).In_ok-axes) (few (goal.at.new_empty-requires c).Else-over_rank);
  result_size_in_bounds = search rules;
}

pub returns : goal.returns
unfolding new_empty_call number_of
returns c =
    let call : Verdict Layout = new_empty_call c.args.rank (length c.args.res.now) in
    let small = few (goal.at.returns c).Else-over_rank in
    let read = sign (goal.at.returns c).After-sign_of in
    let some = axes (goal.at.returns c).In_ok-axes in
    let natural = sign_natural _ read some in
    let same = ap (λ (n : ℕ). given (new_empty n)) (as_natural _ read some) in
    ends_stepped encode call (given (new_empty c.in_ok-axes.axes)) c.new_empty.ensures (search (judged, results))
