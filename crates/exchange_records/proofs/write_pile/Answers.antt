-- `write_pile`: each turn is one slot.
use Prim.Native.Nat.{◌+◌, ◌/◌}
use lib.ListN.{length}
use Rattle.rules.specs.Limits.{result_size}
use Rattle.exchange_records.proofs.Growing.{back_at}
use Rattle.exchange_records.proofs.Printing.{Printing, printing_start, printing_turn}
use Rattle.exchange_records.proofs.write_pile.Goals as goal

pub loop-i-init : goal.loop-i-init
loop-i-init c = printing_start c.requires.0 c.requires.1

pub loop-i-preserved : goal.loop-i-preserved
loop-i-preserved c =
    let printed : (Printing c.args.pile.now (length c.args.pile.now / result_size) c.args.at c.args.out.now (c.loop-i.i + 1) (c.loop-i.next + c.write_slot-next.result) (back_at c.loop-i.next (c.loop-i.next + 32768) c.loop-i.out c.write_slot-next.new.out)) = printing_turn c.loop-i.invariant c.loop-i-test.true c.write_slot-next.auto.out c.write_slot-next.ensures in
    printed
