-- `put_moved`: at each turn the row plus the first indices is in the table, and the next index stands ready.
use Rattle.stretch.proofs.Moves.{move_start, ask_sum, can_move, moved_row, move_turn, move_stop}
use borrow.Author.Rules.{rules}
use Rattle.stretch.proofs.every.put_moved.Goals as goal

pub loop-number-init : goal.loop-number-init
loop-number-init c = move_start c.requires

pub added-row-requires : goal.added-row-requires
added-row-requires c = ask_sum c.loop-number.invariant c.loop-number-test.true

pub put_row-requires : goal.put_row-requires
put_row-requires c = let g = c.loop-number.invariant in record {
  ready = can_move g;
  has_row = moved_row g c.loop-number-test.true c.added-row.result (search rules) c.added-row.ensures;
}

pub returns-then-not-put_row : goal.returns-then-not-put_row
returns-then-not-put_row c = move_stop c.loop-number.invariant c.loop-number-test.true c.added-row.result (search rules) c.added-row.ensures c.put_row.ensures c.if-not-put_row.true

pub loop-number-preserved : goal.loop-number-preserved
loop-number-preserved c = move_turn c.loop-number.invariant c.loop-number-test.true c.added-row.result (search rules) c.added-row.ensures c.put_row.ensures c.if-not-put_row.false c.turn.ensures (search rules)
