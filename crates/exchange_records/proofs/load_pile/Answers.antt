-- `load_pile`: each turn is one record and its slot.
use native.Mathlib.Omega.{arith}
use Rattle.exchange_records.proofs.Loading.{loading_start, further_on, loading_turn}
use Rattle.exchange_records.proofs.load_pile.Goals as goal

pub loop-i-init : goal.loop-i-init
loop-i-init c = loading_start c.requires.0 c.requires.1

pub slice_bounds-load_slot-count : goal.slice_bounds-load_slot-count
slice_bounds-load_slot-count c = further_on _ c.loop-i.invariant.inside c.behind_record-next.ensures

pub slice_bounds-load_slot-start : goal.slice_bounds-load_slot-start
slice_bounds-load_slot-start c = omega (arith, further_on _ c.loop-i.invariant.inside c.behind_record-next.ensures)

pub loop-i-preserved : goal.loop-i-preserved
loop-i-preserved c = loading_turn c.loop-i.invariant c.loop-i-test.true c.behind_record-next.ensures c.load_slot.ensures c.load_slot.auto.slot
