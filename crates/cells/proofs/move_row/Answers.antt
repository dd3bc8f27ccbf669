-- `move_row`: after each store one number more of the row is written.
use native.Mathlib.Omega.{arith}
use borrow.Author.Rules.{rules}
use Rattle.cells.proofs.Written.{Moving, move_start, move_one, move_two, move_three, move_four, move_five, move_done}
use Rattle.cells.proofs.move_row.Goals as goal
use Rattle.cells.proofs.move_row.Goals.{Start}

-- nothing is written
begun : (c : Start) → let a = c.args in Moving a.from a.to a.n a.s.now 0 a.s.now
begun c = move_start c.requires.n_in_bounds.0 c.requires.n_in_bounds.1 c.requires.fact

pub returns-then-n-eq0 : goal.returns-then-n-eq0
returns-then-n-eq0 c = move_done (begun (goal.at.returns-then-n-eq0 c).Start) (omega arith)

pub returns-then-n-eq1 : goal.returns-then-n-eq1
returns-then-n-eq1 c = move_done (move_one (begun (goal.at.returns-then-n-eq1 c).Start) (search rules) (omega arith)) (omega arith)

pub returns-then-n-eq2 : goal.returns-then-n-eq2
returns-then-n-eq2 c = move_done (move_two (begun (goal.at.returns-then-n-eq2 c).Start) (search rules) (search rules) (omega arith)) (omega arith)

pub returns-then-n-eq3 : goal.returns-then-n-eq3
returns-then-n-eq3 c = move_done (move_three (begun (goal.at.returns-then-n-eq3 c).Start) (search rules) (search rules) (search rules) (omega arith)) (omega arith)

pub returns-then-n-eq4 : goal.returns-then-n-eq4
returns-then-n-eq4 c = move_done (move_four (begun (goal.at.returns-then-n-eq4 c).Start) (search rules) (search rules) (search rules) (search rules) (omega arith)) (omega arith)

pub returns : goal.returns
returns c = move_done (move_five (begun (goal.at.returns c).Start) (search rules) (search rules) (search rules) (search rules) (search rules) (omega arith)) (omega arith)
