-- `two_slots`: the first number that is no place, the same place twice, or two places.
use Rattle.pile.proofs.Places.{first_negative, second_negative, first_past, second_past, same_place, two_places, Naturals, both_natural}
use mathlib.Core.Path.{◌≡◌}
use Rattle.cells.specs.View.{sign_of}
use Rattle.shapes.proofs.Reading.{handed_over}
use Rattle.pile.proofs.two_slots.Goals as goal
use Rattle.pile.proofs.two_slots.Goals.{After-sign_of, After-sign_of-2, In_ok-j}

-- the signs of both numbers
first_sign : (c : After-sign_of) → c.sign_of.result ≡ sign_of c.args.first
first_sign c = handed_over _ c.ranges.first c.sign_of.ensures.is

second_sign : (c : After-sign_of-2) → c.sign_of-2.result ≡ sign_of c.args.second
second_sign c = handed_over _ c.ranges.second c.sign_of-2.ensures.is

-- both are natural
numbers : (c : In_ok-j) → Naturals c.args.first c.args.second c.in_ok-i.i c.in_ok-j.j
numbers c = both_natural _ _ (handed_over _ c.ranges.first c.sign_of.ensures.is) c.in_ok-i.was (handed_over _ c.ranges.second c.sign_of-2.ensures.is) c.in_ok-j.was

pub returns-in_err-i : goal.returns-in_err-i
returns-in_err-i c =
    rw c.from_residual.ensures (first_negative _ c.args.second _ (first_sign (goal.at.returns-in_err-i c).After-sign_of) c.in_err-i.was)

pub returns-in_err-j : goal.returns-in_err-j
returns-in_err-j c = let at = goal.at.returns-in_err-j c in
    rw c.from_residual-in_err-j.ensures
    (second_negative _ _ _ (first_sign at.After-sign_of) c.in_ok-i.was (second_sign at.After-sign_of-2) c.in_err-j.was)

pub returns-then-count-i : goal.returns-then-count-i
returns-then-count-i c = first_past (numbers (goal.at.returns-then-count-i c).In_ok-j) _ c.if-count-i.true

pub returns-then-count-j : goal.returns-then-count-j
returns-then-count-j c = second_past (numbers (goal.at.returns-then-count-j c).In_ok-j) _ c.if-count-i.false c.if-count-j.true

pub returns-then-i-j : goal.returns-then-i-j
returns-then-i-j c = same_place (numbers (goal.at.returns-then-i-j c).In_ok-j) _ c.if-count-i.false c.if-count-j.false c.if-i-j.true

pub returns : goal.returns
returns c = two_places (numbers (goal.at.returns c).In_ok-j) _ c.if-count-i.false c.if-count-j.false c.if-i-j.false
