-- `copy_row`: a part that was lent was written, or after each store one number more of the row is.
use native.Mathlib.Omega.{arith}
use borrow.Author.Rules.{rules}
use Rattle.cells.proofs.Written.{Bringing, bring_start, bring_one, bring_two, bring_three, bring_turn, bring_done}
use Rattle.cells.proofs.copy_row.Goals as goal
use Rattle.cells.proofs.copy_row.Goals.{Start}

-- nothing is written
begun : (c : Start) → let a = c.args in Bringing a.from a.to a.n a.src.now a.dst.now 0 a.dst.now
begun c = bring_start c.requires.0 c.requires.1

pub loop-i-init : goal.loop-i-init
loop-i-init c = search (rules, bring_start)

pub loop-i-preserved : goal.loop-i-preserved
loop-i-preserved c = search (rules, bring_turn)

pub returns-then-n-eq0 : goal.returns-then-n-eq0
returns-then-n-eq0 c = bring_done (begun (goal.at.returns-then-n-eq0 c).Start) (omega arith)

pub returns-then-n-eq1 : goal.returns-then-n-eq1
returns-then-n-eq1 c = bring_done (bring_one (begun (goal.at.returns-then-n-eq1 c).Start) (search rules) (omega arith)) (omega arith)

pub returns-then-n-eq2 : goal.returns-then-n-eq2
returns-then-n-eq2 c = bring_done (bring_two (begun (goal.at.returns-then-n-eq2 c).Start) (search rules) (search rules) (omega arith)) (omega arith)

pub returns : goal.returns
returns c = bring_done (bring_three (begun (goal.at.returns c).Start) (search rules) (search rules) (search rules) (omega arith)) (omega arith)
