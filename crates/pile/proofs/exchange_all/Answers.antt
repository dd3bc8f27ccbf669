-- `exchange_all`: each turn is one pair of the list, made or not.
use native.Mathlib.Omega.{arith}
use borrow.Author.Rules.{rules}
use Rattle.std.proofs.lemmas.Bool.Decides.{nat_tests}
use Rattle.pile.proofs.Going.{turn_made, turn_refused, all_short, all_odd, all_passed}
use Rattle.pile.proofs.exchange_all.Goals as goal
use Rattle.pile.proofs.exchange_all.Goals.{in-Ok, in_default}

pub returns-then-work-lt-WORK : goal.returns-then-work-lt-WORK
returns-then-work-lt-WORK c = all_short _ _ _ c.if-work-lt-WORK.true

pub returns-then-not-is_empty : goal.returns-then-not-is_empty
returns-then-not-is_empty c = all_odd _ _ _ c.if-work-lt-WORK.false (grind (arith, nat_tests)) c.clear.ensures

pub loop-first-preserved : goal.loop-first-preserved
loop-first-preserved c =
    elim c.match-exchange.branch [
      | in-Ok w ↦ rw w.made-is (turn_made c.loop-first.invariant c.loop-first-test.true (search rules) (search rules) (search rules) c.exchange.ensures w.in-Ok.is)
      | in_default w ↦ rw w.made-is (turn_refused c.loop-first.invariant c.loop-first-test.true (search rules) (search rules) (search rules) c.exchange.ensures w.in_default.is)
    ]

pub returns : goal.returns
returns c = all_passed _ _ _ c.loop-first.invariant c.loop-first-test.false c.clear-2.ensures
