-- `find_all`: index by index.
use borrow.Author.Rules.{rules}
use Rattle.lookups.proofs.FindingAll.{looks, number_turn}
use Rattle.lookups.proofs.many.find_all.Goals as goal

pub loop-i-init : goal.loop-i-init
loop-i-init c = search (rules, looks)

pub loop-i-preserved : goal.loop-i-preserved
loop-i-preserved c =
    number_turn c.requires.sound_record c.requires.indices c.loop-i-test.true c.find.result c.find.ensures c.loop-i.invariant c.number_of.ensures
