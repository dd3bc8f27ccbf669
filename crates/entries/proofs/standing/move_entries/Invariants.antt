-- `move_entries`: at each turn the first i rows are small, and are the first i rows of the table.
use Rattle.entries.proofs.Placing.{PlacingAll}
use Rattle.entries.proofs.standing.move_entries.Given as goal

abbrev pub invariant-loop-i : goal.invariant-loop-i
invariant-loop-i l = PlacingAll l.first l.count l.from l.start l.n l.w l.to l.i l.initial.window l.window
