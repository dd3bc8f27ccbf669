-- `all_natural`: at each turn the least of the first k numbers and 0 is known.
use lib.IntN.{pos}
use lib.ListN.{get_or}
use mir.Syntax.{w32}
use mir.Val.{SFits}
use borrow.Author.Rules.{rules}
use Rattle.cells.proofs.Signed.{back}
use Rattle.records.proofs.Numbers.{least_of_two, least_tells, all_low}
use Rattle.records.proofs.all_natural.Goals as goal

pub loop-k-preserved : goal.loop-k-preserved
loop-k-preserved c =
    let x : SFits w32 (get_or c.args.s.now c.loop-k.k (pos 0)) = search rules in
    rw (back c.min-least.result c.min-least.type_inv) (least_of_two c.loop-k.invariant c.loop-k-test.true x.sfits c.min-least.ensures)

pub returns : goal.returns
returns c = record {
  is = least_tells c.loop-k.invariant c.loop-k-test.false;
  low = all_low c.loop-k.invariant c.loop-k-test.false;
}
