-- `stretch_rows`: where there is one index the rows stay; else at each turn what the first i rows give is among the rows of the part.
use Rattle.stretch.proofs.Moves.{list_start, all_listed, ask_moves, list_turn, list_stop, list_done}
use Rattle.stretch.proofs.Staying.{ask_sort, rows_stay}
use Rattle.stretch.proofs.rows.stretch_rows.Goals as goal

pub sort_from-requires : goal.sort_from-requires
sort_from-requires c = ask_sort c.requires

pub returns-then-size-eq1 : goal.returns-then-size-eq1
returns-then-size-eq1 c = rows_stay c.requires c.product-size.ensures c.if-size-eq1.true c.sort_from.ensures

pub loop-i-init : goal.loop-i-init
loop-i-init c = list_start c.requires c.store.ensures c.product-size.ensures

pub put_moved-requires : goal.put_moved-requires
put_moved-requires c = ask_moves c.loop-i.invariant c.loop-i-test.true

pub returns-then-not-put_moved : goal.returns-then-not-put_moved
returns-then-not-put_moved c = all_listed c.requires c.store.ensures
    (list_stop c.loop-i.invariant c.loop-i-test.true c.put_moved.ensures c.if-not-put_moved.true)

pub loop-i-preserved : goal.loop-i-preserved
loop-i-preserved c = list_turn c.loop-i.invariant c.loop-i-test.true c.put_moved.ensures c.if-not-put_moved.false

pub returns : goal.returns
returns c = all_listed c.requires c.store.ensures (list_done c.loop-i.invariant c.loop-i-test.false)
