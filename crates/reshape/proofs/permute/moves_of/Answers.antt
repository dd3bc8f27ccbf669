-- `moves_of`: at each turn the entries from k on are walked.
use borrow.Author.Rules.{rules}
use Rattle.reshape.proofs.Moves.{walk_negative, walk_over, walk_twice, walk_turned, walks}
use Rattle.reshape.proofs.permute.moves_of.Goals as goal

pub loop-k-init : goal.loop-k-init
loop-k-init c = search (rules, walks)

pub returns-in_err-axis : goal.returns-in_err-axis
returns-in_err-axis c = rw c.from_residual.ensures (walk_negative c.loop-k.invariant c.loop-k-test.true c.sign_at.ensures.is c.in_err-axis.was)

pub returns-then-axis-gt3 : goal.returns-then-axis-gt3
returns-then-axis-gt3 c = walk_over c.loop-k.invariant c.loop-k-test.true c.sign_at.ensures.is c.in_ok-axis.was c.if-axis-gt3.true

pub returns-then-places-axis-lt5 : goal.returns-then-places-axis-lt5
returns-then-places-axis-lt5 c = walk_twice c.loop-k.invariant c.loop-k-test.true c.sign_at.ensures.is c.in_ok-axis.was c.if-axis-gt3.false c.if-places-axis-lt5.true

pub loop-k-preserved : goal.loop-k-preserved
loop-k-preserved c = walk_turned c.loop-k.invariant c.loop-k-test.true c.sign_at.ensures.is c.in_ok-axis.was c.if-axis-gt3.false c.max-largest.ensures c.if-places-axis-lt5.false
